-- A command and its response on the line CMD (SD Physical Layer 6.00, section 4.7 and 4.9; JESD84-B51, section 6.10 and 6.12).
use Rattle.std.specs.Prelude.{ℕ, ◌++◌, List, [], map}
use Rattle.std.specs.List.{flat_map}
use Rattle.mmc_frame.specs.Check.{byte_bits}
use Rattle.mmc_card.specs.declared.exchange.Reply.{Reply}
use Rattle.mmc_card.specs.declared.exchange.Reply.TheVariants.{Silent, Short, Long}
use Rattle.mmc_card.specs.declared.exchange.Want.{Want}
use Rattle.mmc_card.specs.declared.exchange.Want.TheVariants as Wanted
use Rattle.card_wave.specs.declared.sample.Sample.{Sample}
use Rattle.card_wave.specs.Samples.{held, idle, on_cmd}

-- a byte on CMD, its highest bit first
unfoldable pub byte_on_cmd : ℕ → List Sample
byte_on_cmd b = map on_cmd (byte_bits b)

-- the bytes of a frame
unfoldable pub frame_samples : List ℕ → List Sample
frame_samples bytes = flat_map byte_on_cmd bytes

-- the response, or the 64 clocks in which one was awaited
unfoldable pub reply_samples : Want → Reply → List Sample
reply_samples want (Short frame) = frame_samples frame
reply_samples want (Long frame) = frame_samples frame
reply_samples Wanted.Nothing Silent = []
reply_samples Wanted.Short Silent = held 64 idle
reply_samples Wanted.Long Silent = held 64 idle

-- a command, five idle clocks, its response, and eight idle clocks
unfoldable pub command_samples : List ℕ → Want → Reply → List Sample
command_samples frame want reply =
    frame_samples frame ++ (held 5 idle ++ (reply_samples want reply ++ held 8 idle))

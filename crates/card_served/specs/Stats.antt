-- What was met while a card was served, in words.
use Rattle.std.specs.Prelude.{◌++◌, List, codes, ℕ}
use Rattle.std.specs.Fmt.{decimal}
use Rattle.mmc_recovery.specs.declared.healed.Healed.{Healed}

-- attempts A, failed by Answer N, Data N, Status N, Busy N, Recovery N; settled S, reset R
unfoldable pub healed_text : Healed → List ℕ
healed_text healed =
    codes "attempts " ++ (decimal healed.attempts ++ (codes ", failed by Answer " ++ (decimal healed.by_answer
    ++ (codes ", Data " ++ (decimal healed.by_data ++ (codes ", Status " ++ (decimal healed.by_status
    ++ (codes ", Busy " ++ (decimal healed.by_busy ++ (codes ", Recovery " ++ (decimal healed.by_recovery
    ++ (codes "; settled " ++ (decimal healed.settlings ++ (codes ", reset " ++ (decimal healed.resets ++ codes "\n")))))))))))))))

-- exchanges E, faults that fell F of P planned
unfoldable pub fell_text : ℕ → ℕ → ℕ → List ℕ
fell_text exchanges fell planned =
    codes "exchanges " ++ (decimal exchanges ++ (codes ", faults that fell " ++ (decimal fell
    ++ (codes " of " ++ (decimal planned ++ codes " planned")))))

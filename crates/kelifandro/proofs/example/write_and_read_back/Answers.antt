use Rattle.std.proofs.Common.{◌∙◌, refl, rules, sym, w32}
use Rattle.std.proofs.lemmas.Int.{to_z-of_z}
use Rattle.mmc_requests.specs.declared.asked.Asked.{Asked}
use Rattle.mmc_requests.specs.declared.kind.Kind.TheVariants.{Read, Write}
use Rattle.kelifandro.specs.History.{Told}
use Rattle.kelifandro.proofs.ReadBackLemmas.{read_after}
use Rattle.kelifandro.proofs.example.write_and_read_back.Goals as goal

pub returns : goal.returns
returns g c = record {
  read_back = λ write_done read_done same is.
      let writes : Asked = record { kind = Write; part = c.args.part; start = c.args.start; count = 0 } in
      let reads : Asked = record { kind = Read; part = c.args.part; start = c.args.start; count = 0 } in
      let wrote : Told = record {
        asked = writes;
        before = c.args.written.now;
        after = c.serve-wrote.new.blocks;
        number = c.serve-wrote.result;
      } in
      let read : Told = record {
        asked = reads;
        before = c.args.back.now;
        after = c.serve-read.new.blocks;
        number = c.serve-read.result;
      } in
      read_after wrote read c.open-2.result c.what_was_written_is_read_back.ensures (c.serve-read.ensures.continues.served is)
      c.serve-wrote.ensures.continues.calls c.close.ensures.continues.calls c.open-2.ensures.continues.calls
      c.serve-read.ensures.continues.calls
      (record {
        writes = refl;
        reads = refl;
        part = refl;
        start = refl;
        length = same;
        write_done = sym (to_z-of_z w32 c.serve-wrote.result (search rules)) ∙ write_done;
        read_done = sym (to_z-of_z w32 c.serve-read.result (search rules)) ∙ read_done;
        whole_before = c.seen-before.ensures.whole;
        whole_after = c.seen-after.ensures.whole;
      });
}

use Rattle.text_out.proofs.WritingLemmas.{front_before, writes_after, writes_failed}
use Rattle.card_decode.specs.Registers.{number_of}
use Rattle.card_decode.specs.Summaries.{summary_text}
use Rattle.card_decode.specs.Words.{fields_text}
use Rattle.card_decode.proofs.put.put_register.Goals as goal

pub returns-in_err-put_table : goal.returns-in_err-put_table
returns-in_err-put_table g c =
    let puts = c.in_err-put_table.ensures in
    let n = number_of c.args.register c.args.bytes.now in record {
      fields = puts.fields;
      table = puts.table;
      written = writes_failed _ _ c.from_residual.result _ c.from_residual.ensures.0
          (front_before _ _ (fields_text c.args.register n puts.fields)
          (summary_text c.args.register c.args.bytes.now) puts.written);
    }

pub returns : goal.returns
returns g c =
    let puts = c.in_ok-put_table.ensures in
    let n = number_of c.args.register c.args.bytes.now in record {
      fields = puts.fields;
      table = puts.table;
      written = writes_after _ _ _ c.put_summary.result (fields_text c.args.register n puts.fields)
          (summary_text c.args.register c.args.bytes.now) puts.written c.put_summary.ensures;
    }

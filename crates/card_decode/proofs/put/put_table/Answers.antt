use Rattle.card_decode.proofs.put.put_table.Goals as goal

pub returns-else-is_low_first : goal.returns-else-is_low_first
returns-else-is_low_first g c = record {
  fields = c.fields.result.now;
  table = c.fields.ensures;
  written = c.put_fields.ensures;
}

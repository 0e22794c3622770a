use Rattle.card_json.proofs.answer.put_given.Goals as goal

pub returns : goal.returns
returns c =
    let written = c.put_object.ensures in
    rw (
      c.number_at.ensures,
      c.number_at-2.ensures,
      c.text_at.ensures,
      c.data_word.ensures,
      c.code_of.ensures,
      c.text_at-2.ensures,
    ) at written

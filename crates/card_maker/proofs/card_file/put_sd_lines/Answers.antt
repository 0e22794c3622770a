use Rattle.card_maker.proofs.card_file.put_sd_lines.Goals as goal

pub returns : goal.returns
returns g c = rw (c.choice_word-cmd8.ensures, c.choice_word.ensures) at c.put_sd_parts.ensures

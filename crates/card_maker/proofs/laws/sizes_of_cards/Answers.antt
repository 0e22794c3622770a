use Rattle.card_maker.proofs.SizeLemmas.{count_from_size, size_from_count}
use Rattle.card_maker.proofs.laws.sizes_of_cards.Goals as goal

pub returns-clause-only : goal.returns-clause-only
returns-clause-only c = count_from_size

pub returns-clause-all : goal.returns-clause-all
returns-clause-all c = size_from_count

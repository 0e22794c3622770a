use Rattle.std.proofs.Common.{◌≡◌}
use Rattle.kelifandro.proofs.exports.kelifandro_sectors_by.Goals as goal

pub returns-in-Some-Some-clause-size : goal.returns-in-Some-Some-clause-size
returns-in-Some-Some-clause-size c = λ opened how says part meant.
    let same : c.in-Some-Some.part ≡ part = cc in
    let noted : c.in-Some-Some.stands ≡ how = c.in-Some-Some.ensures'.stands how says in
    cc

-- The part is taken where the reading says that it stands.
use Rattle.reading.proofs.header_part.Goals as goal

pub returns : goal.returns
returns c = c.part.ensures

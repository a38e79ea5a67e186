-- The entries that are shown lie in the header part.
use Rattle.reading.proofs.ReadingLaws.{palette_is}
use Rattle.reading.proofs.palette.Goals as goal

pub returns : goal.returns
returns c =
    palette_is _ _ c.requires _ c.header_part-header.ensures.bytes _ c.read.ensures.0

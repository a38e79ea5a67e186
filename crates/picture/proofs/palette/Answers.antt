-- A picture that fits its record has its header part in it.
use Rattle.picture.proofs.palette.Goals as goal

pub header_part-requires : goal.header_part-requires
header_part-requires c = (c.requires c.in-Some.p c.in-Some.is).header_read

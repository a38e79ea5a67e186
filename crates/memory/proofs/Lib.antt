-- What passing statuses 1 and 2 says of the lent memory, how much a play appends, and when two works are one play.
pub mod LimitLaws
pub mod PlayingLaws
pub mod SameWorkLaws

-- Condition 3 and what it rests on: the kept link, a play, the top play, an undo; then the list of calls as bytes; records whose
-- parts share bytes.
pub mod Kept
pub mod PlayStep
pub mod TopPlay
pub mod UndoStep
pub mod Condition3
pub mod CallLaws
pub mod LoopLaws
pub mod RunLaws
pub mod Conditions
pub mod SharedInHistoryLaws

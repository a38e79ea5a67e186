-- What undo rests on: records as bytes, rows saved and drawn, records restored, and the surface given back.
pub mod RecordLaws
pub mod RowLaws
pub mod RestoreLaws
pub mod UndoLaws
pub mod AlikeLaws
pub mod PointwiseLaws

-- Laws of a number as text, for a proof over `Printed`.
pub mod TextLaws

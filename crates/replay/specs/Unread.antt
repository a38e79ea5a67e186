-- What a buffer holds of the script and was not consumed yet. Definitions only.
use Rattle.std.specs.Prelude.{◌≡◌, ℕ, List, ◌++◌, length, take, slice_range}
use Rattle.words.specs.Bytes.{bytes32}
use Rattle.replay.specs.declared.input.Input.{Input}

abbrev pub unread : {R : Type 0} → Input R → List ℕ
unread i = slice_range i.buffer.now i.at i.end

-- what was held and not consumed still comes first, and more may stand behind it
abbrev pub StaysInFront : {R : Type 0} → Input R → Input R → Type 0
StaysInFront before after = take (length (unread before)) (unread after) ≡ unread before

-- the number's four bytes, with what is unread now behind them, begin with all that was unread before
abbrev pub TakesNumber : {R : Type 0} → Input R → Input R → ℕ → Type 0
TakesNumber before after n = take (length (unread before)) (bytes32 n ++ unread after) ≡ unread before

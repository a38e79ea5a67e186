-- The number's bytes are the four that it was read from, and these are passed over.
use Rattle.std.proofs.Common.{◌≡◌, ℕ, List, ◌++◌, drop, rules}
use Rattle.words.specs.Bytes.{bytes32}
use Rattle.replay.specs.Unread.{unread}
use Rattle.replay.proofs.UnreadLaws.{bytes_read}
use Rattle.replay.proofs.input.Input.number.Goals as goal

pub returns-clause-number : goal.returns-clause-number
returns-clause-number g c =
    let s : List ℕ = c.bytes-bytes.result.now in
    let n : ℕ = c.read-number.result in
    let whole : bytes32 n ++ drop 4 s ≡ s = bytes_read s n c.if-bytes-lt4.false (λ k. search rules) c.read-number.ensures.0 in
    let passed : unread c.consume.new.self ≡ drop 4 (unread c.ahead.new.self) = c.consume.ensures.unread in
    cc (whole, c.bytes-bytes.ensures, passed, c.ahead.ensures.unread)

-- The line of a whole reading's parts is the reading's line.
use Rattle.std.proofs.Common.{◌≡◌, Bool, true, false, cond, refl}
use mir.Val.{bool_byte}
use Rattle.script_calls.specs.Asked.{line_with}
use Rattle.script_calls.proofs.LineLaws.{line_read}
use Rattle.script_calls.proofs.read.Goals as goal

-- the number that std makes of a test
number : (b : Bool) → bool_byte b ≡ cond b 1 0
number true = refl
number false = refl

pub returns : goal.returns
unfolding line_with
returns c = line_read c.args.s c.args.mask c.read-w.result c.read-w.ensures _ (rw (c.of_bytes.ensures, c.of_bytes-2.ensures, c.of_words.ensures, c.from.ensures, c.from-2.ensures, c.from-3.ensures, c.from-4.ensures, c.from-5.ensures, c.from-6.ensures, c.from-7.ensures, c.from-8.ensures, c.from-9.ensures, c.from-10.ensures, number c.read-w.result.view.layout.top_down))

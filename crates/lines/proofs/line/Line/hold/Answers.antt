-- `lines::line::Line::hold` meets its contract: the line has run over before, or it runs over, or there is room.
-- Assumes nothing.
use Rattle.std.proofs.Common.{◌≡◌, ◌+◌, ◌-◌, ◌≤◌, length, take, refl, sym, ap, ◌∙◌, arith, length-take-le}
use Rattle.std.proofs.lemmas.Slice.{take-put_mid}
use Rattle.lines_theory.specs.Feed.{held, too_long}
use Rattle.lines.specs.Lines.{partial_of}
use Rattle.lines.proofs.LineSoFar.{partial_held, partial_over, over_by, hold_full, hold_room}
use Rattle.lines.proofs.line.Line.hold.Goals as goal
use Rattle.lines.proofs.line.Line.hold.Goals.{Then-len-le101, in_default-via-in-Some+else-len-le101, in_default-via-in_default}

-- what is held
now_held : (c : Then-len-le101) → held (take c.in-Some.len c.self.inside.bytes) ≡ c.args.self.now
now_held c = sym (partial_held c.self.inside.bytes c.in-Some.is c.if-len-le101.true) ∙ c.self.view_is

held_length : (c : Then-len-le101) → length (take c.in-Some.len c.self.inside.bytes) ≡ c.in-Some.len
held_length c = length-take-le _ _ (omega (arith, c.self.told))

pub returns-in_default : goal.returns-in_default
returns-in_default c =
    let over : too_long ≡ c.args.self.now =
    sym (elim c.in_default.branch [
      | in_default-via-in-Some+else-len-le101 w ↦ partial_over c.self.inside.bytes w.in-Some.is w.if-len-le101.false
      | in_default-via-in_default w ↦ ap (partial_of c.self.inside.bytes) w.in_default.is
    ]) ∙ c.self.view_is in
    rw (← over) (over_by c.args.bytes.now)

pub returns-then-bytes-len : goal.returns-then-bytes-len
returns-then-bytes-len c =
    let some = (goal.at.returns-then-bytes-len c).Then-len-le101 in
    rw (← now_held some) (hold_full _ c.args.bytes.now (omega (arith, held_length some)) (omega (arith, held_length some, c.if-bytes-len.true)))

pub returns : goal.returns
returns c =
    let some = (goal.at.returns c).Then-len-le101 in
    let n = c.in-Some.len in
    let bytes = c.args.bytes.now in
    let end = n + length bytes in
    let room : end ≤ 101 = omega arith in
    let same = c.copy_from_slice.ensures.after in
    let put = take-put_mid n (end - n) c.self.inside.bytes c.copy_from_slice.new.self end (omega (arith, ap length same)) (omega (arith, c.self.told)) in
    partial_held _ refl room ∙ rw (put, same, ← now_held some) (hold_room _ bytes (omega (arith, held_length some)))

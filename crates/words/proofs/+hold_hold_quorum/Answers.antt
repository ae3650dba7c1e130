use Rattle.std.proofs.Common.{◌≡◌, ◌+◌, ◌-◌, ◌≤◌, ◌<◌, ℕ, true, List, eqb, ltb, length, get_or, arith, sym, ap, ap₂, ◌∙◌, subst, set, replicate}
use native.Mathlib.Nat.{sub-zero}
use Rattle.model.specs.Sides.{confidentiality, integrity}
use Rattle.words.specs.FourWords.{both_sides, sided, same_rows}
use Rattle.model.specs.Terms.{quorate}
use Rattle.model.proofs.Truth.{and_right}
use Rattle.model.proofs.Reading.{quorate_true}
use Rattle.words.specs.declared.Held.{Held}
use Rattle.words.specs.declared.Rows.{Rows}
use Rattle.words.specs.Evaluation.{Evaluated, left_over, quorum_at}
use Rattle.words.proofs.Behind.{behind_left_over, behind_other, behind_most}
use Rattle.words.proofs.Steps.{left_over_lem, left_over_inside, eval_end, eval_bottom, eval_project, eval_join, eval_quorum, eval_left_over}
use Rattle.words.proofs.Tallies.{weighing_start, weighing_next}
use Rattle.words.proofs.+hold_hold_quorum.Goals as goal
use Rattle.words.proofs.+hold_hold_quorum.Goals.{hold-Joined-is_name, hold-Joined-is_name-2, hold_quorum-Else-not-leaves, hold_quorum-Else-not-is_quorum, hold-then-is_name, hold-else-is_name, hold-then-is_name-2, hold-else-is_name-2, hold_quorum-Joined-is_name, hold_quorum-then-is_name, hold_quorum-else-is_name}

-- a part that is held at a place, and the place after it
abbrev There : List ℕ → ℕ → ℕ → Held → Type 0
There codes at g part = Evaluated codes at g part.rows part.next

pub hold-returns-in_default : goal.hold-returns-in_default
hold-returns-in_default t c = eval_end _ _ _ _ c.in_default.ensures.lookup.3 (c.alike.ensures ∙ ap both_sides c.same.ensures)

-- the first part, whether it is a name or not, and the second
first : (t : ℕ) (c : hold-Joined-is_name t) → There c.args.codes.now (c.args.at + 1) c.args.g c.if-is_name.p
first t c = elim c.if-is_name.branch [
  | hold-then-is_name w ↦ subst (There c.args.codes.now (c.args.at + 1) c.args.g) (sym w.p-is) w.hold_name-p.ensures
  | hold-else-is_name w ↦ subst (There c.args.codes.now (c.args.at + 1) c.args.g) (sym w.p-is) w.hold-p.ensures
]

second : (t : ℕ) (c : hold-Joined-is_name-2 t) → There c.args.codes.now c.if-is_name.p.next c.args.g c.if-is_name-2.q
second t c = elim c.if-is_name-2.branch [
  | hold-then-is_name-2 w ↦ subst (There c.args.codes.now c.if-is_name.p.next c.args.g) (sym w.q-is) w.hold_name-q.ensures
  | hold-else-is_name-2 w ↦ subst (There c.args.codes.now c.if-is_name.p.next c.args.g) (sym w.q-is) w.hold-q.ensures
]

pub hold-returns-in-Some-of : goal.hold-returns-in-Some-of
hold-returns-in-Some-of t c =
    let p = goal.at.hold-returns-in-Some-of t c in
    let code = c.in-Some.ensures.lookup.3 in
    eval_join _ _ _ code.0 _ _ (first t p.Joined-is_name) _ _ (second t p.Joined-is_name-2) _ _ (rw (code.1 0) at (sym c.of.ensures ∙ c.in-Some-of.is)) c.join.ensures

pub hold-hold_quorum-next-requires : goal.hold-hold_quorum-next-requires
hold-hold_quorum-next-requires t c =
    let left = left_over_lem _ c.if-code-lt12.false (sym c.of.ensures ∙ c.in_default-of.is) (λ e. omega arith) (λ e. omega arith) (λ e. omega arith) in
    (omega (arith, behind_left_over c.args.codes.now c.args.at (rw (c.in-Some.ensures.lookup.3.1 0) at left), c.decreases), tt)

pub hold-returns-in-33 : goal.hold-returns-in-33
hold-returns-in-33 t c =
    let code = c.in-Some.ensures.lookup.3 in
    eval_bottom _ _ _ code.0 _ (c.alike-in-33.ensures ∙ ap both_sides c.same-in-33.ensures) (sym (code.1 0) ∙ c.in-33.is)

pub hold-returns-in-64 : goal.hold-returns-in-64
hold-returns-in-64 t c =
    let code = c.in-Some.ensures.lookup.3 in
    eval_project _ _ _ code.0 _ _ c.hold-p-in-64.ensures confidentiality _ (c.sided.ensures ∙ ap (sided confidentiality _) c.same-in-64.ensures) (sym (code.1 0) ∙ c.in-64.is)

pub hold-returns-in-65 : goal.hold-returns-in-65
hold-returns-in-65 t c =
    let code = c.in-Some.ensures.lookup.3 in
    eval_project _ _ _ code.0 _ _ c.hold-p-in-65.ensures integrity _ (c.sided-in-65.ensures ∙ ap (sided integrity _) c.same-in-65.ensures) (sym (code.1 0) ∙ c.in-65.is)

pub hold_quorum-hold-next-requires : goal.hold_quorum-hold-next-requires
hold_quorum-hold-next-requires t c =
    (omega (arith, behind_other c.args.codes.now c.args.at (sym c.leaves.ensures ∙ c.if-not-leaves.true), c.decreases), tt)

-- a code that is left over is there
told : (t : ℕ) (c : hold_quorum-Else-not-leaves t) → left_over (get_or c.args.codes.now c.args.at 0) ≡ true
told t c = sym c.leaves.ensures ∙ c.if-not-leaves.false

there : (t : ℕ) (c : hold_quorum-Else-not-leaves t) → c.args.at < length c.args.codes.now
there t c = left_over_inside c.args.codes.now c.args.at (told t c)

-- and it is a quorum's, with a k and an m in range
counted : (t : ℕ) (c : hold_quorum-Else-not-is_quorum t) → quorum_at c.args.codes.now c.args.at ≡ true
counted t c = sym c.is_quorum.ensures ∙ c.if-not-is_quorum.false

few : (t : ℕ) (c : hold_quorum-Else-not-is_quorum t) → get_or c.args.codes.now (c.args.at + 1) 0 ≤ 12
few t c =
    let k = get_or c.args.codes.now (c.args.at + 1) 0 in
    let m = get_or c.args.codes.now (c.args.at + 2) 0 in
    omega (arith, quorate_true k m (and_right (ltb (c.args.at + 2) (length c.args.codes.now)) (quorate k m) (and_right (eqb (get_or c.args.codes.now c.args.at 0) 0x32) _ (counted t c))))

pub hold_quorum-returns-then-not-is_quorum : goal.hold_quorum-returns-then-not-is_quorum
hold_quorum-returns-then-not-is_quorum t c =
    let q = (goal.at.hold_quorum-returns-then-not-is_quorum t c).Else-not-leaves in
    eval_left_over _ _ _ (there t q) _ (c.alike.ensures ∙ ap both_sides c.same.ensures) (told t q) (sym c.is_quorum.ensures ∙ c.if-not-is_quorum.true)

pub hold_quorum-loop-init : goal.hold_quorum-loop-init
hold_quorum-loop-init t c =
    let none : c.alike-table.result ≡ same_rows 0 = c.alike-table.ensures ∙ ap both_sides c.same-2.ensures in
    let all : c.alike-2.result ≡ same_rows 0xFFFF_FFFF_FFFF_FFFF = c.alike-2.ensures ∙ ap both_sides c.same-3.ensures in
    (few t (goal.at.hold_quorum-loop-init t c).Else-not-is_quorum, rw sub-zero (weighing_start _ _ _ _ _ _ (ap₂ (λ (x y : Rows). set (replicate 13 x) 0 y) none all)))

pub hold_quorum-hold_quorum-p-requires : goal.hold_quorum-hold_quorum-p-requires
hold_quorum-hold_quorum-p-requires t c =
    (omega (arith, there t (goal.at.hold_quorum-hold_quorum-p-requires t c).Else-not-leaves, c.loop.invariant.1.forward, behind_most c.args.codes.now c.loop.next, c.decreases), tt)

-- a part, whether it is a name or not
part : (t : ℕ) (c : hold_quorum-Joined-is_name t) → There c.args.codes.now c.loop.next c.args.g c.if-is_name.p
part t c = elim c.if-is_name.branch [
  | hold_quorum-then-is_name w ↦ subst (There c.args.codes.now c.loop.next c.args.g) (sym w.p-is) w.hold_name-p.ensures
  | hold_quorum-else-is_name w ↦ subst (There c.args.codes.now c.loop.next c.args.g) (sym w.p-is) w.hold_quorum-p.ensures
]

pub hold_quorum-loop-preserved : goal.hold_quorum-loop-preserved
hold_quorum-loop-preserved t c =
    let l = c.loop in
    let m = get_or c.args.codes.now (c.args.at + 2) 0 in
    let fewer : m - (l.counter + 1) ≡ m - l.counter - 1 = omega arith in
    (l.invariant.0, rw fewer (weighing_next _ _ _ _ _ _ _ _ (part t (goal.at.hold_quorum-loop-preserved t c).Joined-is_name) _ _ l.invariant.0 c.weigh.ensures (m - l.counter) (omega arith) l.invariant.1))

pub hold_quorum-returns : goal.hold_quorum-returns
hold_quorum-returns t c =
    let p = goal.at.hold_quorum-returns t c in
    let l = c.loop in
    eval_quorum _ _ _ (there t p.Else-not-leaves) _ (get_or c.args.codes.now (c.args.at + 2) 0 - l.counter) _ (omega arith) (counted t p.Else-not-is_quorum) l.invariant.1

-- Each return is a law of `proofs/Calls.antt`.
use Rattle.std.proofs.Common.{◌≡◌, ◌&&◌, true, [], length, reverse, sym, ◌∙◌, rules, arith, inl, inr}
use lib.Dec.{eqb, leb}
use borrow.Author.Tests.{eq-eqb, ne_eqb}
use Rattle.std.proofs.lemmas.Result.{err_from_is_err_and}
use Rattle.notation.proofs.Places.{read_ok, read_err}
use Rattle.model.specs.Terms.{job_size}
use Rattle.model.specs.Notation.{read_back, text_length}
use Rattle.notation.specs.Reading.{ReadOff}
use Rattle.notation.proofs.Calls.{text_7, text_81, text_82, left_82, text_83, text_codes_lem}
use Rattle.notation.proofs.read_text.Goals as goal
use Rattle.notation.proofs.read_text.Goals.{After-contains, After-contains-2, After-new-reader, In_ok-ok_or}

-- what the tests of n and of the text's length say
told : (c : After-contains) → c.contains.result ≡ (leb 1 c.args.n && leb c.args.n 12)
told c = search rules

told_text : (c : After-contains-2) → c.contains-2.result ≡ (leb 1 (length c.args.text.now) && leb (length c.args.text.now) 256)
told_text c = search rules

pub returns-then-not-contains : goal.returns-then-not-contains
returns-then-not-contains c = text_7 _ _ _ (sym (told (goal.at.returns-then-not-contains c).After-contains) ∙ c.if-not-contains.true)

pub returns-then-not-contains-2 : goal.returns-then-not-contains-2
returns-then-not-contains-2 c =
    let p = goal.at.returns-then-not-contains-2 c in
    let few = sym (told p.After-contains) ∙ c.if-not-contains.false in
    text_81 _ _ _ few (elim c.then-not-contains-2.either [
      | inl h ↦ rw (sym (told_text p.After-contains-2) ∙ h)
      | inr h ↦ rw (sym (told_text p.After-contains-2) ∙ h.0, ne_eqb (length c.args.codes.now) 64 h.1)
    ])

-- n, the text and the buffer are fit
few : (c : After-new-reader) → job_size c.args.n ≡ true
few c = sym (told (goal.at.After-new-reader c).After-contains) ∙ c.if-not-contains.false

fits : (c : After-new-reader) → (text_length (length c.args.text.now) && eqb (length c.args.codes.now) 64) ≡ true
fits c = rw (sym (told_text (goal.at.After-new-reader c).After-contains-2) ∙ c.if-not-contains-2.false, eq-eqb (length c.args.codes.now) 64 c.if-codes-ne64.false)

pub returns-in_err-ok_or : goal.returns-in_err-ok_or
returns-in_err-ok_or c =
    let p = (goal.at.returns-in_err-ok_or c).After-new-reader in
    let r = err_from_is_err_and c.from_residual.result c.from_residual.ensures.1 in
    let e = read_err _ c.new-reader.result c.list.new.self c.list.result _ (sym c.ok_or.ensures.value ∙ c.in_err-ok_or.was) c.list.ensures in
    rw (r.1, r.2, e.1) (text_82 _ _ _ (few p) (fits p) (rw c.new-reader.ensures at e.0))

-- what was read
whole : (c : In_ok-ok_or) → ReadOff (read_back c.args.n 2 (reverse c.args.text.now)) c.args.n [] c.list.new.self
whole c = rw c.new-reader.ensures at (read_ok _ c.new-reader.result c.list.new.self c.list.result _ (sym c.ok_or.ensures.value ∙ c.in_ok-ok_or.was) c.list.ensures)

pub returns-then-not-is_done : goal.returns-then-not-is_done
returns-then-not-is_done c =
    let p = goal.at.returns-then-not-is_done c in
    left_82 _ _ _ (few p.After-new-reader) (fits p.After-new-reader) _ (whole p.In_ok-ok_or) (sym c.is_done.ensures ∙ c.if-not-is_done.true)

pub returns-then-count-gt64 : goal.returns-then-count-gt64
returns-then-count-gt64 c =
    let p = goal.at.returns-then-count-gt64 c in
    text_83 _ _ _ (few p.After-new-reader) (fits p.After-new-reader) _ (whole p.In_ok-ok_or) (sym c.is_done.ensures ∙ c.if-not-is_done.false) (rw⁻¹ c.codes-read.ensures c.if-count-gt64.true)

pub returns : goal.returns
returns c =
    let p = goal.at.returns c in
    rw (c.copy_from_slice.ensures.after, c.codes-read.ensures)
    (text_codes_lem _ _ _ (few p.After-new-reader) (fits p.After-new-reader) _ (whole p.In_ok-ok_or) (sym c.is_done.ensures ∙ c.if-not-is_done.false) (rw⁻¹ c.codes-read.ensures (omega arith)))

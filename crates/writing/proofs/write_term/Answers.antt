-- Each return is a law of `proofs/Calls.antt`.
use Rattle.std.proofs.Common.{◌≡◌, ◌≤◌, ◌&&◌, true, length, sym, ◌∙◌, rules, arith}
use lib.Dec.{leb}
use Rattle.std.proofs.lemmas.List.{length-take-le}
use Rattle.std.proofs.lemmas.Result.{err_from_is_err_and}
use Rattle.model.specs.Terms.{job_size, read_term}
use Rattle.refusals.specs.declared.Refusal.TheVariants.{Term}
use Rattle.refusals.proofs.Results.{Accepted}
use Rattle.terms.proofs.Accepted.{accepted_as, refused_as}
use Rattle.writing.proofs.Calls.{term_7, term_81, term_1_to_4, term_room, text_room, term_text_lem}
use Rattle.writing.proofs.write_term.Goals as goal
use Rattle.writing.proofs.write_term.Goals.{After-contains, Else-not-contains, Else-size-ne256, In_ok-map_err, After-text-written}

-- what the test of n says
told : (c : After-contains) → c.contains.result ≡ (leb 1 c.args.n && leb c.args.n 12)
told c = search rules

pub returns-then-not-contains : goal.returns-then-not-contains
returns-then-not-contains c = term_7 _ _ _ (sym (told (goal.at.returns-then-not-contains c).After-contains) ∙ c.if-not-contains.true)

few : (c : Else-not-contains) → job_size c.args.n ≡ true
few c = sym (told (goal.at.Else-not-contains c).After-contains) ∙ c.if-not-contains.false

pub returns-then-size-ne256 : goal.returns-then-size-ne256
returns-then-size-ne256 c = term_81 _ _ _ (few (goal.at.returns-then-size-ne256 c).Else-not-contains) (λ e. omega arith)

-- the buffer is of 256 bytes
sized : (c : Else-size-ne256) → length c.args.text.now ≡ 256
sized c = omega arith

pub returns-in_err-map_err : goal.returns-in_err-map_err
returns-in_err-map_err c =
    let p = err_from_is_err_and c.from_residual.result c.from_residual.ensures.1 in
    let r = refused_as c.args.n c.args.term.now c.read_term.result c.read_term.ensures Term c.map_err.result c.map_err.ensures.cases _ c.in_err-map_err.was in
    rw (p.1, p.2, r.1) (term_1_to_4 _ _ _ (few (goal.at.returns-in_err-map_err c).Else-not-contains) (sized (goal.at.returns-in_err-map_err c).Else-size-ne256) r.0 r.2)

-- the term is accepted
accepted : (c : In_ok-map_err) → Accepted (read_term c.args.n c.args.term.now)
accepted c = accepted_as c.args.n c.args.term.now c.read_term.result c.read_term.ensures Term c.map_err.result c.map_err.ensures.cases _ c.in_ok-map_err.was

pub part-requires : goal.part-requires
part-requires c =
    let p = goal.at.part-requires c in
    rw c.new-writer.ensures (term_room _ _ c.args.text.now (few p.Else-not-contains) (sized p.Else-size-ne256) (accepted p.In_ok-map_err))

-- and its text fits
fits : (c : After-text-written) → length c.text-written.result.now ≤ length c.args.text.now
fits c =
    let p = goal.at.After-text-written c in
    rw c.text-written.ensures (text_room _ _ _ (few p.Else-not-contains) (sized p.Else-size-ne256) (accepted p.In_ok-map_err) c.part.new.self (c.part.ensures ∙ rw c.new-writer.ensures))

pub slice_bounds-copy_from_slice-end : goal.slice_bounds-copy_from_slice-end
slice_bounds-copy_from_slice-end c = fits c

pub slice_bounds-copy_from_slice-end-2 : goal.slice_bounds-copy_from_slice-end-2
slice_bounds-copy_from_slice-end-2 c = sym (length-take-le _ c.args.text.now (fits (goal.at.slice_bounds-copy_from_slice-end-2 c).After-text-written))

pub copy_from_slice-requires : goal.copy_from_slice-requires
copy_from_slice-requires c = length-take-le _ c.args.text.now (fits (goal.at.copy_from_slice-requires c).After-text-written)

pub returns : goal.returns
returns c =
    let p = goal.at.returns c in
    rw (c.copy_from_slice.ensures.after, c.text-written.ensures)
    (term_text_lem _ _ _ (few p.Else-not-contains) (sized p.Else-size-ne256) (accepted p.In_ok-map_err) c.part.new.self (c.part.ensures ∙ rw c.new-writer.ensures))

-- The refusals in their order, and then the table.
use Rattle.std.proofs.Common.{ℕ, ◌≡◌, true, length, arith, take, drop, replicate, rules, sym, ap, ◌∙◌}
use Rattle.std.proofs.lemmas.List.{take-replicate, drop-replicate}
use Rattle.model.specs.Dates.{real_date}
use Rattle.model.specs.Grants.{under}
use Rattle.model.specs.Questions.{sound_under}
use Rattle.model.specs.Extracts.{table}
use Rattle.model.proofs.Table.{table_cong}
use Rattle.std.proofs.lemmas.Result.{err_from_is_err_and}
use Rattle.soundness.proofs.Accepted.{ChosenCounting, chosen_accepted, chosen_refused, sound_chosen}
use Rattle.extracts.specs.Halves.{blank}
use Rattle.extracts.proofs.Outcomes.{halves_table, day_refused, size_refused, book_refused, table-written}
use Rattle.extracts.proofs.extract.Goals as goal
use Rattle.extracts.proofs.extract.Goals.{Else-buffer-ne1024, In_ok-chosen}

pub returns-then-not-real_date : goal.returns-then-not-real_date
returns-then-not-real_date c = day_refused _ _ _ _ (sym c.real_date.ensures ∙ c.if-not-real_date.true)

pub returns-then-buffer-ne1024 : goal.returns-then-buffer-ne1024
returns-then-buffer-ne1024 c =
    let a = c.args in
    size_refused a.ledger.now a.label.now a.day a.buffer.now (sym c.real_date.ensures ∙ c.if-not-real_date.false) (λ e. omega arith)

-- no refusal 86
real : (c : Else-buffer-ne1024) → real_date c.args.day ≡ true
real c = sym c.real_date.ensures ∙ c.if-not-real_date.false

-- nor 51
fits : (c : Else-buffer-ne1024) → length c.args.buffer.now ≡ 1024
fits c = omega arith

pub returns-in_err-chosen : goal.returns-in_err-chosen
returns-in_err-chosen c =
    let a = c.args in
    let s = (goal.at.returns-in_err-chosen c).Else-buffer-ne1024 in
    let p = err_from_is_err_and c.from_residual.result c.from_residual.ensures.1 in
    rw (p.1, p.2) (book_refused a.ledger.now a.label.now a.day a.buffer.now (real s) (fits s) _ (chosen_refused _ _ _ _ c.counting.ensures _ c.in_err-chosen.was))

-- nothing can be refused any more
counting : (c : In_ok-chosen) → ChosenCounting c.args.ledger.now c.args.label.now c.args.day c.in_ok-chosen.chosen
counting c = chosen_accepted _ _ _ _ c.counting.ensures _ c.in_ok-chosen.was

-- both halves are 00 before they are marked
pub mark_sound-requires : goal.mark_sound-requires
mark_sound-requires c =
    let filled : c.fill.new.self ≡ replicate (length c.args.buffer.now) 0 = search rules in
    let size : length c.args.buffer.now ≡ 1024 = omega arith in
    let clear : c.fill.new.self ≡ blank 1024 = filled ∙ ap blank size in
    (c.split_at_mut-see.ensures.front ∙ ap (take 512) clear ∙ take-replicate 512 1024 0 (omega arith), c.split_at_mut-see.ensures.back ∙ ap (drop 512) clear ∙ drop-replicate 512 1024 0)

-- they are the table: they have the marks of the sound coalitions
pub returns : goal.returns
returns c =
    let a = c.args in
    let s = (goal.at.returns c).Else-buffer-ne1024 in
    let h = counting (goal.at.returns c).In_ok-chosen in
    let b = h.book in
    let n = c.in_ok-chosen.chosen.sizes.names in
    table-written a.ledger.now a.label.now a.day a.buffer.now (real s) (fits s) b.book (under n b.L a.day) _ (b.is a.day)
    (halves_table c.mark_sound.ensures
    ∙ table_cong _ _ _ (λ s d _. sound_chosen _ _ _ _ h s d)
    ∙ ap (λ (m : ℕ). table m (sound_under b.book (under n b.L a.day))) b.of.names)

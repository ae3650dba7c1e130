-- Laws of reading grants and ledgers, as the readers' results: one term, one grant and one test after another. Assumes nothing.
use Prim.Native.Nat.{ℕ, suc, ◌+◌, ◌≤◌, ◌<◌}
use mathlib.Core.Path.{◌≡◌, refl, sym, ◌∙◌}
use mathlib.Core.Bool.{Bool, true, false, ◌&&◌}
use mathlib.Core.List.{List, [], ◌∷◌}
use lib.ListN.{length, drop, get_or, drop_of_length-le}
use lib.Seq.{drop-cons}
use Rattle.std.proofs.Common.{add-one}
use Rattle.model.specs.Bytes.{byte}
use Rattle.model.specs.Readings.{Reading, accepted, refused, and_then, require, refused_as}
use Rattle.model.specs.Terms.{Term, read_term}
use Rattle.model.specs.Dates.{date_or_none, in_order}
use Rattle.model.specs.Grants.{Grant}
use Rattle.model.specs.Ledgers.{checked, header, grant_blocks, all_checked, header_form, grant_form, p_bytes, q_bytes, label_bytes, first_day, last_day, read_terms, read_days, read_grant, read_grants, ledger_length, read_ledger}
use Rattle.model.proofs.Stands.{read_grants_lem}
use Rattle.refusals.specs.Results.{done}
use Rattle.ledgers.specs.Readings.{days_reading, sizes}

-- go on where something was done; a refusal stays the answer
abbrev pub then : {A : Type 0} → Reading (Unit {0}) → Reading A → Reading A
then r next = and_then r (λ u. next)

-- a term of a grant, any refusal of it being 14
abbrev pub read_at : ℕ → List ℕ → Reading (Unit {0})
read_at n bytes = done (refused_as 14 (read_term n bytes))

module _ (n : ℕ) (block : List ℕ) (form : grant_form block ≡ true) where
  -- of a block that has its form, the answer goes by its three terms, in their order, and by its days
  answer : done (read_grant n block)
      ≡ then (read_at n (p_bytes block)) (then (read_at n (q_bytes block)) (then (read_at n (label_bytes block)) (days_reading (first_day block) (last_day block))))
  unfolding read_grant read_terms read_days days_reading
  answer = rw form (three (read_term n (p_bytes block)) (read_term n (q_bytes block)) (read_term n (label_bytes block)))
    where
      days : (a b : Bool) (g : Grant) → done (require a 84 (require b 85 (accepted g))) ≡ require a 84 (require b 85 (accepted tt))
      days true true g = refl
      days true false g = refl
      days false b g = refl

      three : (p q d : Reading Term)
          → done {A = Grant} (and_then (refused_as 14 (and_then p (λ a. and_then q (λ b. and_then d (λ c. accepted (record { p = a; q = b; label = c; first = first_day block; last = last_day block })))))) read_days)
          ≡ then (done (refused_as 14 p)) (then (done (refused_as 14 q)) (then (done (refused_as 14 d)) (days_reading (first_day block) (last_day block))))
      three (accepted a) (accepted b) (accepted c) = days (date_or_none (first_day block) && date_or_none (last_day block)) (in_order (first_day block) (last_day block)) _
      three (accepted a) (accepted b) (refused r) = refl
      three (accepted a) (refused r) d = refl
      three (refused r) q d = refl

  pub grant_p : (k : ℕ) → refused k ≡ read_at n (p_bytes block) → refused k ≡ done (read_grant n block)
  grant_p k e = rw (answer, ← e)

  pub grant_q : (k : ℕ) (u : Unit {0}) → accepted u ≡ read_at n (p_bytes block) → refused k ≡ read_at n (q_bytes block) → refused k ≡ done (read_grant n block)
  grant_q k u p e = rw (answer, ← p, ← e)

  pub grant_label : (k : ℕ) (u v : Unit {0}) → accepted u ≡ read_at n (p_bytes block) → accepted v ≡ read_at n (q_bytes block) → refused k ≡ read_at n (label_bytes block)
      → refused k ≡ done (read_grant n block)
  grant_label k u v p q e = rw (answer, ← p, ← q, ← e)

  pub grant_days : (r : Reading (Unit {0})) (u v w : Unit {0}) → accepted u ≡ read_at n (p_bytes block) → accepted v ≡ read_at n (q_bytes block)
      → accepted w ≡ read_at n (label_bytes block) → r ≡ days_reading (first_day block) (last_day block) → r ≡ done (read_grant n block)
  grant_days r u v w p q d e = e ∙ rw (answer, ← p, ← q, ← d)

grants_cons : (n : ℕ) (b : List ℕ) (bs : List (List ℕ)) → done (read_grants n (b ∷ bs)) ≡ then (done (read_grant n b)) (done (read_grants n bs))
unfolding read_grants
grants_cons n b bs = both (read_grant n b) (read_grants n bs)
  where
    both : (r : Reading Grant) (rs : Reading (List Grant)) → done (and_then r (λ g. and_then rs (λ gs. accepted (g ∷ gs)))) ≡ then (done r) (done rs)
    both (accepted g) (accepted gs) = refl
    both (accepted g) (refused k) = refl
    both (refused k) rs = refl

module _ (n : ℕ) (grants : List (List ℕ)) (k : ℕ) (whole : Reading (Unit {0})) (w : done (read_grants n (drop k grants)) ≡ whole) where
  -- the answer for block k, a grant's, and those after it
  more : k < length grants → whole ≡ then (done (read_grant n (get_or grants k []))) (done (read_grants n (drop (k + 1) grants)))
  more h = sym w ∙ rw (drop-cons grants k [] h, add-one k) (grants_cons n (get_or grants k []) (drop (suc k) grants))

  pub grants_stop : k < length grants → (r : ℕ) → refused r ≡ done (read_grant n (get_or grants k [])) → refused r ≡ whole
  grants_stop h r e = rw (more h, ← e)

  pub grants_more : k < length grants → (u : Unit {0}) → accepted u ≡ done (read_grant n (get_or grants k [])) → done (read_grants n (drop (k + 1) grants)) ≡ whole
  grants_more h u e = rw (more h, ← e)

  pub grants_end : length grants ≤ k → accepted tt ≡ whole
  unfolding read_grants
  grants_end h = let none = drop_of_length-le grants {i = k} h in rw none at w

-- once the blocks and block 0 are accepted, the answer goes by the grants
pub ledger_answer : (bytes : List ℕ) → ledger_length (length bytes) ≡ true → (checked (header bytes) && all_checked (grant_blocks bytes)) ≡ true
    → header_form (length (grant_blocks bytes)) (header bytes) ≡ true
    → sizes (read_ledger bytes) ≡ then (done (read_grants (byte 1 bytes) (grant_blocks bytes))) (accepted (record { names = byte 1 bytes; grants = length (grant_blocks bytes) }))
unfolding read_ledger
ledger_answer bytes fits checks form = simp (fits, checks, form) (by (read_grants (byte 1 bytes) (grant_blocks bytes)) (λ gs e. (read_grants_lem (byte 1 bytes) (grant_blocks bytes) gs e).count))
  where
    by : (r : Reading (List Grant)) → ((gs : List Grant) → r ≡ accepted gs → length gs ≡ length (grant_blocks bytes))
        → sizes (and_then r (λ gs. accepted (record { names = byte 1 bytes; grants = gs }))) ≡ then (done r) (accepted (record { names = byte 1 bytes; grants = length (grant_blocks bytes) }))
    by (accepted gs) h = rw (h gs refl)
    by (refused k) h = refl

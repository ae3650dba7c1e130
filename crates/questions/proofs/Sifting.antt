-- What is left of a row once a grant was looked at, and what is known then. Assumes nothing.
use mathlib.Core.Path.{◌≡◌, refl, sym, ap, ◌∙◌, subst}
use mathlib.Core.Bool.{Bool, true, false, ◌&&◌, and-true}
use mathlib.Core.List.{List}
use Prim.Native.Nat.{ℕ, ◌+◌, ◌≤◌, ◌<◌}
use native.Mathlib.Omega.{arith}
use borrow.Author.Tests.{lt-ltb, le-ltb}
use Rattle.model.specs.Coalitions.{member, Marks, implies}
use Rattle.model.specs.Grants.{Grant, marks_of, keeps}
use Rattle.model.proofs.Packed.{member-packed}
use Rattle.words.specs.declared.Rows.{Rows}
use Rattle.words.specs.FourWords.{RowsAt, each_row, lacks_word, empty_rows}
use Rattle.words.proofs.FourWords.{rows_cong}
use Rattle.counting.specs.declared.Asked.{Asked}
use Rattle.counting.specs.declared.Known.{Known}
use Rattle.counting.specs.Counted.{grant_in, counts_at, counts_in, counted_in, judged_at}
use Rattle.counting.proofs.Knowing.{known_judged}
use Rattle.soundness.specs.Keeping.{breaks}
use Rattle.soundness.proofs.Steps.{kept_rows, kept_all, keep_first, keep_step}
use Rattle.questions.specs.Sieving.{SiftedTo, SoundAsked, counts_asked, sound_asked}

-- ---- one grant

-- those of f that keep the grant if it counts
abbrev pub keep_if : Bool → Marks → Grant → Marks
keep_if counts f d s c = f s c && implies counts (keeps (marks_of d) s c)

-- a grant that doesn't count is kept by all
idle : (b : Bool) (f : Marks) (d : Grant) (g : ℕ) (x : Rows) → b ≡ false → RowsAt f g x → RowsAt (keep_if b f d) g x
idle b f d g x e h = rw e (rows_cong g f (λ s c. f s c && true) x (λ s c _ _. sym (and-true (f s c))) h)

module _ (counts : ℕ → Bool) (k : ℕ) (h : k < 64) (d : Grant) (f : Marks) (g : ℕ) (known : Known) (left : Rows) (so_far : SiftedTo counts f g known left) where
  -- it may not count
  pub sift_closed : member k known.possible ≡ false → SiftedTo counts (keep_if (counts k) f d) g known left
  sift_closed e = record { rows = idle (counts k) f d g left (so_far.so.closed k h e) so_far.rows; so = so_far.so }

  module _ (gone : Rows) (b : RowsAt (λ s c. f s c && breaks (marks_of d) s c) g gone) where
    -- none breaks it
    pub sift_kept : empty_rows gone ≡ true → SiftedTo counts (keep_if (counts k) f d) g known left
    sift_kept e = record { rows = by (counts k); so = so_far.so }
      where
        by : (b : Bool) → RowsAt (keep_if b f d) g left
        by true = kept_all d f g left gone so_far.rows b e
        by false = idle false f d g left refl so_far.rows

    module _ (may : member k known.possible ≡ true) (judged : Known) (is : judged ≡ judged_at (counts k) k known) where
      -- judged, it doesn't count
      pub sift_idle : member k judged.possible ≡ false → SiftedTo counts (keep_if (counts k) f d) g judged left
      sift_idle e =
          let j = known_judged counts k known h so_far.so may in
          record {
            rows = idle (counts k) f d g left (sym j.says ∙ ap (λ (x : Known). member k x.possible) (sym is) ∙ e) so_far.rows;
            so = rw is j.still_so;
          }

      -- judged, it does
      pub sift_gone : (rest : Rows) → member k judged.possible ≡ true → rest ≡ each_row lacks_word left gone → SiftedTo counts (keep_if (counts k) f d) g judged rest
      sift_gone rest e r =
          let j = known_judged counts k known h so_far.so may in
          let yes : counts k ≡ true = sym j.says ∙ ap (λ (x : Known). member k x.possible) (sym is) ∙ e in
          record {
            rows = rw yes (kept_rows d f g left gone rest so_far.rows b r);
            so = rw is j.still_so;
          }

-- ---- the grants one after another

-- the bit of a grant says whether it counts
counted-bit : (ledger label : List ℕ) (day n grants k : ℕ) → grants ≤ 64 → k < grants → member k (counted_in ledger n grants label day) ≡ counts_at ledger n label day k
unfolding counted_in
counted-bit ledger label day n grants k most below =
    let e : 0 + k ≡ k = omega arith in
    rw (le-ltb 64 grants most) (member-packed (counts_in ledger n grants label day) 0 64 k (omega arith) ∙ rw (e, lt-ltb k grants below))

pub sift_more : (ledger label : List ℕ) (day n grants k : ℕ) (f : Marks) (g : ℕ) (known : Known) (left : Rows) → grants ≤ 64 → k < grants
    → SiftedTo (counts_at ledger n label day) (keep_if (counts_at ledger n label day k) (keep_first ledger (counted_in ledger n grants label day) f g k) (grant_in ledger k)) g known left
    → SiftedTo (counts_at ledger n label day) (keep_first ledger (counted_in ledger n grants label day) f g (k + 1)) g known left
sift_more ledger label day n grants k f g known left most below h = record {
  rows = keep_step ledger (counted_in ledger n grants label day) f g k left (rw (counted-bit ledger label day n grants k most below) h.rows);
  so = h.so;
}

-- all grants: what is left is sound, and what is known then still is so
pub sifted_sound : (a : Asked) (known : Known) (S f : Marks) (g : ℕ) (known' : Known) (left : Rows) → SoundAsked a known S → (a' : Asked) → a' ≡ a → SiftedTo (counts_asked a) (λ s c. f s c && sound_asked a s c) g known' left
    → RowsAt (λ s c. f s c && S s c) g left × SoundAsked a' known' S
sifted_sound a known S f g known' left k a' e h =
    (rows_cong _ _ _ _ (λ s c _ _. ap (λ (b : Bool). f s c && b) (sym (k.is s c))) h.rows, subst (λ (x : Asked). SoundAsked x known' S) (sym e) (record { few = k.few; is = k.is; so = h.so }))

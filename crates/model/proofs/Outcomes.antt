-- Laws of a call's answer and its lent buffer. Assumes nothing.
use mathlib.Core.Path.{◌≡◌, refl, ap, ◌∙◌}
use Prim.Native.Nat.{ℕ}
use native.Mathlib.Omega.{arith}
use mathlib.Core.List.{List}
use lib.ListN.{length}
use Rattle.model.specs.Readings.{Reading, accepted, refused}
use Rattle.model.specs.Answers.{Answer, Written, Refused, number, Outcome, written_front}

-- the number of the answer, and the bytes of the buffer, are the outcome's
pub outcome_number : (a : Answer) (bytes : List ℕ) (o : Outcome) → ◌≡◌ {A = Outcome} (record { answer = a; buffer = bytes }) o
    → (k : ℕ) → k ≡ number a → (k ≡ number o.answer) × (bytes ≡ o.buffer)
outcome_number a bytes o e k h = (h ∙ ap (λ (x : Outcome). number x.answer) e, ap (λ (x : Outcome). x.buffer) e)

-- what was written to the front of a buffer
pub record FrontBytes (x : Reading (List ℕ)) (k : ℕ) : Type 0 where
  pub bytes : List ℕ
  pub was : x ≡ accepted bytes
  pub size : length bytes ≡ k

pub front_bytes : (x : Reading (List ℕ)) (buffer : List ℕ) (k : ℕ) → (written_front x buffer).answer ≡ Written k → FrontBytes x k
front_bytes (accepted l) buffer k e = record { bytes = l; was = refl; size = cc }
front_bytes (refused r) buffer k e = absurd (let z : ◌≡◌ {A = ℕ} 0 1 = cc in omega arith)

-- a refused call leaves its buffer
pub front_refused : (x : Reading (List ℕ)) (buffer : List ℕ) (r : ℕ) → (written_front x buffer).answer ≡ Refused r → (written_front x buffer).buffer ≡ buffer
front_refused (accepted bytes) buffer r e = absurd (let z : ◌≡◌ {A = ℕ} 0 1 = cc in omega arith)
front_refused (refused k) buffer r e = refl

-- What each refusal of a term means (document 01, "Refusals by operation", Term): the reader gives it exactly under its condition. Assumes nothing.
use Prim.Native.Nat.{ℕ, zero, suc, ◌<◌, ◌≤◌}
use native.Mathlib.Omega.{arith}
use native.Mathlib.Decide.{ℕ_discrete, dec_lt}
use mathlib.Core.Logic.{◌↔◌, ◌⊎◌, inl, inr, ⊎_elim}
use mathlib.Core.Path.{◌≡◌, refl, sym, ap, ◌∙◌}
use mathlib.Core.Bool.{Bool, true, false, cond}
use mathlib.Core.List.{List, [], ◌∷◌, ◌++◌, append_assoc, append-nil}
use lib.ListN.{length, length-append}
use Rattle.model.specs.Readings.{refused}
use Rattle.model.specs.Terms.{Term, name, top, bottom, conj, disj, project, quorum, Terms, nil, cons, count, quorate, project_code, codes, codes_all, NamesBelow, PartsBelow, Code, whole, one, two, many, none, code_of, Front, found, stopped, onward, read_all, read_quorum, read_parts, read_front, all_read, read_term}
use Rattle.model.specs.Refusals.{RightLength, WrongLength, Beginning, Reaches, TooShort, EndsEarly, OutOfRange, Strange, NoCode, CodesLeft}
use Rattle.model.proofs.Truth.{cond_case}
use Rattle.model.proofs.Reading.{Right, code_right, quorate_true, rest_shorter, front_none, front_step, front_sound, code_project, front_codes, codes_unique, term_within, term_case}

-- why the reader stops, with r, where `tail` is left
abbrev Stop : ℕ → ℕ → List ℕ → Type 0
Stop n r tail = ((r ≡ 3) × TooShort tail) ⊎ ((r ≡ 2) × Strange n tail)

-- the reader of cs stops with r, after a beginning of a term
abbrev Stopped : ℕ → ℕ → List ℕ → Type 0
Stopped n r = Reaches (Beginning n) (Stop n r)

-- nothing is such a beginning: of the codes of the weakest party, for one
begin : (n : ℕ) → Beginning n []
unfolding codes NamesBelow
begin n = record { term = bottom; below = tt; more = []; completed = refl }

at_once : (n r : ℕ) (tail : List ℕ) → Stop n r tail → Stopped n r tail
at_once n r tail w = record { front = []; tail = tail; written = refl; begins = begin n; left = w }

module _ (n c : ℕ) where
  -- an operator's code before a proper beginning of its part
  begin_one : (f : Term → Term) → Right n c (one f) → (cs : List ℕ) → Beginning n cs → Beginning n (c ∷ cs)
  begin_one f h cs b =
      record {
        term = f b.term;
        below = (h b.term).1 b.below;
        more = b.more;
        completed = (h b.term).0 ∙ ap (λ (l : List ℕ). c ∷ l) b.completed;
      }

  -- of its first part, the second completed by the weakest party
  begin_first : (f : Term → Term → Term) → Right n c (two f) → (cs : List ℕ) → Beginning n cs → Beginning n (c ∷ cs)
  unfolding NamesBelow
  begin_first f h cs b =
      record {
        term = f b.term bottom;
        below = (h b.term bottom).1 b.below tt;
        more = b.more ++ codes bottom;
        completed = (h b.term bottom).0 ∙ rw (b.completed, append_assoc);
      }

  -- of its second part, after the whole first
  begin_second : (f : Term → Term → Term) → Right n c (two f) → (p : Term) → NamesBelow n p → (cs : List ℕ) → Beginning n cs → Beginning n (c ∷ (codes p ++ cs))
  begin_second f h p k cs b =
      record {
        term = f p b.term;
        below = (h p b.term).1 k b.below;
        more = b.more;
        completed = (h p b.term).0 ∙ rw (b.completed, append_assoc);
      }

-- of m terms: the list begins their codes, and a term is due next
record Beginnings (n m : ℕ) (cs : List ℕ) : Type 0 where
  terms : Terms
  below : PartsBelow n terms
  all : count terms ≡ m
  more : List ℕ
  completed : codes_all terms ≡ cs ++ (0x21 ∷ more)

-- m times the weakest party
weakest : ℕ → Terms
weakest zero = nil
weakest (suc m) = cons bottom (weakest m)

weakest_below : (n m : ℕ) → PartsBelow n (weakest m)
unfolding NamesBelow weakest
weakest_below n zero = tt
weakest_below n (suc m) = (tt, weakest_below n m)

weakest_count : (m : ℕ) → count (weakest m) ≡ m
unfolding count weakest
weakest_count zero = refl
weakest_count (suc m) = ap suc (weakest_count m)

module _ (n m : ℕ) where
  -- of the first part, the others completed by the weakest party
  begin_part : (cs : List ℕ) → Beginning n cs → Beginnings n (suc m) cs
  unfolding NamesBelow codes count
  begin_part cs b =
      record {
        terms = cons b.term (weakest m);
        below = (b.below, weakest_below n m);
        all = ap suc (weakest_count m);
        more = b.more ++ codes_all (weakest m);
        completed = rw (b.completed, append_assoc);
      }

  -- of a later part, after the whole first
  begin_later : (p : Term) → NamesBelow n p → (cs : List ℕ) → Beginnings n m cs → Beginnings n (suc m) (codes p ++ cs)
  unfolding NamesBelow codes count
  begin_later p h cs b =
      record {
        terms = cons p b.terms;
        below = (h, b.below);
        all = ap suc b.all;
        more = b.more;
        completed = rw (b.completed, append_assoc);
      }

  -- a quorum's code, k and m before a beginning of its parts
  begin_quorum : (k : ℕ) → quorate k m ≡ true → (cs : List ℕ) → Beginnings n m cs → Beginning n (0x32 ∷ k ∷ m ∷ cs)
  unfolding NamesBelow codes
  begin_quorum k q cs b =
      record {
        term = quorum k b.terms;
        below = (rw b.all q, b.below);
        more = b.more;
        completed = rw (b.all, b.completed);
      }

-- more codes before a list at which the reader stops, where these and its front are a beginning
carried : {B C P : List ℕ → Type 0} (more cs : List ℕ) (s : Reaches B P cs) → C (more ++ s.front) → Reaches C P (more ++ cs)
carried more cs s b = record { front = more ++ s.front; tail = s.tail; written = rw (s.written, append_assoc); begins = b; left = s.left }

-- what a reading of cs says where it stopped
abbrev Stops : {A : Type 0} → (List ℕ → Type 0) → ℕ → List ℕ → Front A → Type 0
Stops B n cs (found t rest) = Unit {0}
Stops B n cs (stopped r) = Reaches B (Stop n r) cs

module _ (n c : ℕ) (cs : List ℕ) where
  one_stops : (f : Term → Term) → Right n c (one f) → (r : Front Term) → Stops (Beginning n) n cs r → Stops (Beginning n) n (c ∷ cs) (onward r (λ p rest. found (f p) rest))
  one_stops f h (found p rest) s = tt
  one_stops f h (stopped r) s = carried (c ∷ []) cs s (begin_one n c f h s.front s.begins)

  second_stops : (f : Term → Term → Term) → Right n c (two f) → (p : Term) (rest : List ℕ) → cs ≡ codes p ++ rest → NamesBelow n p → (r : Front Term) → Stops (Beginning n) n rest r
      → Stops (Beginning n) n (c ∷ cs) (onward r (λ q last. found (f p q) last))
  second_stops f h p rest e k (found q last) s = tt
  second_stops f h p rest e k (stopped r) s = rw e (carried (c ∷ codes p) rest s (begin_second n c f h p k s.front s.begins))

  two_stops : (f : Term → Term → Term) → Right n c (two f) → ((ds : List ℕ) → length ds ≤ length cs → Stops (Beginning n) n ds (read_front n ds)) → (r : Front Term) → read_front n cs ≡ r → Stops (Beginning n) n cs r
      → Stops (Beginning n) n (c ∷ cs) (onward r (λ p rest. onward (read_front n rest) (λ q last. found (f p q) last)))
  two_stops f h parts (found p rest) e s =
      let d = front_sound n cs p rest e in
      let l : length rest < length cs = rest_shorter cs p rest d.0 in
      second_stops f h p rest d.0 d.1 (read_front n rest) (parts rest (omega arith))
  two_stops f h parts (stopped r) e s = carried (c ∷ []) cs s (begin_first n c f h s.front s.begins)

  -- the parts of a quorum, where a part stops as it should
  module _ (parts : (ds : List ℕ) → length ds ≤ length cs → Stops (Beginning n) n ds (read_front n ds)) where
    later_stops : (m : ℕ) (ds : List ℕ) (p : Term) (rest : List ℕ) → ds ≡ codes p ++ rest → NamesBelow n p → (r : Front Terms) → Stops (Beginnings n m) n rest r
        → Stops (Beginnings n (suc m)) n ds (onward r (λ ps last. found (cons p ps) last))
    later_stops m ds p rest e k (found ps last) s = tt
    later_stops m ds p rest e k (stopped r) s = rw e (carried (codes p) rest s (begin_later n m p k s.front s.begins))

    first_stops : (m : ℕ) (ds : List ℕ) → length ds ≤ length cs → ((es : List ℕ) → length es ≤ length cs → Stops (Beginnings n m) n es (read_all (read_front n) m es))
        → (r : Front Term) → read_front n ds ≡ r → Stops (Beginning n) n ds r
        → Stops (Beginnings n (suc m)) n ds (onward r (λ p rest. onward (read_all (read_front n) m rest) (λ ps last. found (cons p ps) last)))
    first_stops m ds h later (found p rest) e s =
        let d = front_sound n ds p rest e in
        let l : length rest < length ds = rest_shorter ds p rest d.0 in
        later_stops m ds p rest d.0 d.1 (read_all (read_front n) m rest) (later rest (omega arith))
    first_stops m ds h later (stopped r) e s = carried [] ds s (begin_part n m s.front s.begins)

    all_stops : (m : ℕ) (ds : List ℕ) → length ds ≤ length cs → Stops (Beginnings n m) n ds (read_all (read_front n) m ds)
    unfolding read_all
    all_stops zero ds h = tt
    all_stops (suc m) ds h = first_stops m ds h (all_stops m) (read_front n ds) refl (parts ds h)

    whole_stops : (k m : ℕ) (ds : List ℕ) → quorate k m ≡ true → (r : Front Terms) → Stops (Beginnings n m) n ds r
        → Stops (Beginning n) n (0x32 ∷ k ∷ m ∷ ds) (onward r (λ ps rest. found (quorum k ps) rest))
    whole_stops k m ds q (found ps rest) s = tt
    whole_stops k m ds q (stopped r) s = carried (0x32 ∷ k ∷ m ∷ []) ds s (begin_quorum n m k q s.front s.begins)

    quorum_stops : (ds : List ℕ) → length ds ≤ length cs → Stops (Beginning n) n (0x32 ∷ ds) (read_quorum (read_front n) ds)
    quorum_stops [] h = at_once n 3 (0x32 ∷ []) (inl (refl, refl))
    quorum_stops (k ∷ []) h = at_once n 3 (0x32 ∷ k ∷ []) (inl (refl, refl))
    quorum_stops (k ∷ m ∷ ds) h =
        cond_case (Stops (Beginning n) n (0x32 ∷ k ∷ m ∷ ds)) (quorate k m) _ _
        (λ q. whole_stops k m ds q (read_all (read_front n) m ds) (all_stops m ds (omega arith)))
        (λ q. at_once n 2 (0x32 ∷ k ∷ m ∷ ds) (inr (refl, inr (refl, q))))

  parts_stops : ((ds : List ℕ) → length ds ≤ length cs → Stops (Beginning n) n ds (read_front n ds)) → (m : Code) → code_of n c ≡ m → Right n c m → Stops (Beginning n) n (c ∷ cs) (read_parts (read_front n) m cs)
  parts_stops parts (whole t) e h = tt
  parts_stops parts (one f) e h = one_stops f h (read_front n cs) (parts cs (omega arith))
  parts_stops parts (two f) e h = two_stops f h parts (read_front n cs) refl (parts cs (omega arith))
  parts_stops parts many e h = rw h (quorum_stops parts cs (omega arith))
  parts_stops parts none e h = at_once n 2 (c ∷ cs) (inr (refl, inl e))

-- the bound is on the length, for the parts are shorter
front_stops : (n deep : ℕ) (cs : List ℕ) → length cs ≤ deep → Stops (Beginning n) n cs (read_front n cs)
front_stops n zero [] h = rw (front_none n) (at_once n 3 [] (inl (refl, tt)))
front_stops n zero (c ∷ cs) h = absurd (omega arith)
front_stops n (suc deep) [] h = rw (front_none n) (at_once n 3 [] (inl (refl, tt)))
front_stops n (suc deep) (c ∷ cs) h =
    rw (front_step n c cs) (parts_stops n c cs (λ ds l. front_stops n deep ds (omega arith)) (code_of n c) refl (code_right n c))

stopped_at : (n r : ℕ) (cs : List ℕ) → read_front n cs ≡ stopped r → Stopped n r cs
stopped_at n r cs e = rw e at (front_stops n (length cs) cs (omega arith))

-- of two lists written one after the other: a front that ends within the first, or past it
record Within (a front : List ℕ) (x : ℕ) : Type 0 where
  more : List ℕ
  is : a ≡ front ++ (x ∷ more)

record Past (a b front back : List ℕ) : Type 0 where
  mid : List ℕ
  is : front ≡ a ++ mid
  left : b ≡ mid ++ back

front_cases : (a b front : List ℕ) (x : ℕ) (more : List ℕ) → a ++ b ≡ front ++ (x ∷ more) → Within a front x ⊎ Past a b front (x ∷ more)
front_cases [] b front x more e = inr record { mid = front; is = refl; left = e }
front_cases (y ∷ a) b [] x more e = inl record { more = a; is = cc }
front_cases (y ∷ a) b (z ∷ front) x more e =
    ⊎_elim
    (λ w. inl record { more = w.more; is = cc w.is })
    (λ w. inr record { mid = w.mid; is = cc w.is; left = w.left })
    (front_cases a b front x more (cc))

-- where the reader stops at the tail, it stops at the tail after any beginning
module _ (n r : ℕ) (tail : List ℕ) (stop : read_front n tail ≡ stopped r) where
  abbrev StopsAfter : Term → Type 0
  StopsAfter t = (front more : List ℕ) → codes t ≡ front ++ (0x21 ∷ more) → read_front n (front ++ tail) ≡ stopped r

  abbrev StopsAfterAll : Terms → Type 0
  StopsAfterAll ts = (front more : List ℕ) → codes_all ts ≡ front ++ (0x21 ∷ more) → read_all (read_front n) (count ts) (front ++ tail) ≡ stopped r

  after_whole : (t : Term) → length (codes t) ≡ 1 → StopsAfter t
  after_whole t k [] more e = stop
  after_whole t k (c ∷ front) more e = absurd (omega (arith, simp length-append at (ap length e)))

  after_one : (c : ℕ) (f : Term → Term) (p : Term) → code_of n c ≡ one f → codes (f p) ≡ c ∷ codes p → StopsAfter p → StopsAfter (f p)
  after_one c f p k w sp [] more e = stop
  after_one c f p k w sp (b ∷ front) more e =
      let same : b ≡ c = cc in
      front_step n b (front ++ tail) ∙ rw (same, k, sp front more (cc))

  after_two : (c : ℕ) (f : Term → Term → Term) (p q : Term) → code_of n c ≡ two f → codes (f p q) ≡ c ∷ (codes p ++ codes q) → NamesBelow n p → StopsAfter p → StopsAfter q
      → StopsAfter (f p q)
  after_two c f p q k w h sp sq [] more e = stop
  after_two c f p q k w h sp sq (b ∷ front) more e =
      let same : b ≡ c = cc in
      front_step n b (front ++ tail)
      ∙ ⊎_elim
      (λ i. rw (same, k, sp front i.more i.is))
      (λ i. rw (same, k, i.is, append_assoc, front_codes n p (i.mid ++ tail) h, sq i.mid more i.left))
      (front_cases (codes p) (codes q) front 0x21 more (cc))

  -- no k and no m is the weakest party's code
  after_quorum : (k : ℕ) (ts : Terms) → quorate k (count ts) ≡ true → StopsAfterAll ts → StopsAfter (quorum k ts)
  unfolding codes code_of
  after_quorum k ts q sp [] more e = stop
  after_quorum k ts q sp (b ∷ []) more e = let z : k ≡ 0x21 = cc in absurd (omega (arith, quorate_true k (count ts) q))
  after_quorum k ts q sp (b ∷ j ∷ []) more e = let z : count ts ≡ 0x21 = cc in absurd (omega (arith, quorate_true k (count ts) q))
  after_quorum k ts q sp (b ∷ j ∷ m ∷ front) more e =
      let same : b ≡ 0x32 = cc in
      let k_same : j ≡ k = cc in
      let m_same : m ≡ count ts = cc in
      front_step n b (j ∷ m ∷ (front ++ tail)) ∙ rw (same, k_same, m_same, q, sp front more (cc))

  after_part : (t : Term) (ts : Terms) → NamesBelow n t → StopsAfter t → StopsAfterAll ts → StopsAfterAll (cons t ts)
  unfolding codes count read_all
  after_part t ts h st sts front more e =
      ⊎_elim
      (λ i. rw (st front i.more i.is))
      (λ i. rw (i.is, append_assoc, front_codes n t (i.mid ++ tail) h, sts i.mid more i.left))
      (front_cases (codes t) (codes_all ts) front 0x21 more e)

  mutual
    unfolding codes NamesBelow code_of

    stops_after : (t : Term) → NamesBelow n t → StopsAfter t
    stops_after (name i) h = after_whole (name i) refl
    stops_after top h = after_whole top refl
    stops_after bottom h = after_whole bottom refl
    stops_after (conj p q) h = after_two 0x30 conj p q refl refl h.0 (stops_after p h.0) (stops_after q h.1)
    stops_after (disj p q) h = after_two 0x31 disj p q refl refl h.0 (stops_after p h.0) (stops_after q h.1)
    stops_after (project s p) h = after_one (project_code s) (project s) p (code_project n s) refl (stops_after p h)
    stops_after (quorum k ts) h = after_quorum k ts h.0 (all_after ts h.1)

    all_after : (ts : Terms) → PartsBelow n ts → StopsAfterAll ts
    all_after nil h = λ front more e. absurd (omega (arith, simp length-append at (ap length e)))
    all_after (cons t ts) h = after_part t ts h.0 (stops_after t h.0) (all_after ts h.1)

-- the reader stops where what is left is too short, or strange
short_stops : (n : ℕ) (tail : List ℕ) → TooShort tail → read_front n tail ≡ stopped 3
unfolding code_of
short_stops n [] h = front_none n
short_stops n (c ∷ []) h = front_step n c [] ∙ rw h
short_stops n (c ∷ k ∷ []) h = front_step n c (k ∷ []) ∙ rw h
short_stops n (c ∷ k ∷ m ∷ after) h = absurd h

range_stops : (n : ℕ) (after : List ℕ) → OutOfRange after → read_front n (0x32 ∷ after) ≡ stopped 2
unfolding code_of
range_stops n [] h = absurd h
range_stops n (k ∷ []) h = absurd h
range_stops n (k ∷ m ∷ after) h = front_step n 0x32 (k ∷ m ∷ after) ∙ rw h

strange_stops : (n : ℕ) (tail : List ℕ) → Strange n tail → read_front n tail ≡ stopped 2
strange_stops n [] h = absurd h
strange_stops n (c ∷ after) h = ⊎_elim (λ e. front_step n c after ∙ rw e) (λ e. rw e.0 (range_stops n after e.1)) h

-- it stops there after any beginning
reached : {P : List ℕ → Type 0} (n r : ℕ) (cs : List ℕ) → ((tail : List ℕ) → P tail → read_front n tail ≡ stopped r) → Reaches (Beginning n) P cs → read_front n cs ≡ stopped r
reached n r cs stop b =
    let t = b.begins in
    rw b.written (stops_after n r b.tail (stop b.tail b.left) t.term t.below b.front t.more t.completed)

-- what is left where it stopped
narrowed : {P Q : List ℕ → Type 0} (n : ℕ) (cs : List ℕ) → ((tail : List ℕ) → P tail → Q tail) → Reaches (Beginning n) P cs → Reaches (Beginning n) Q cs
narrowed n cs f s = record { front = s.front; tail = s.tail; written = s.written; begins = s.begins; left = f s.tail s.left }

-- Read off the front: 3 exactly where the list ends too early.
pub front_three : (n : ℕ) (cs : List ℕ) → read_front n cs ≡ stopped 3 ↔ EndsEarly n cs
front_three n cs = (
  λ e. narrowed n cs (λ tail. ⊎_elim (λ h. h.1) (λ h. absurd (omega arith))) (stopped_at n 3 cs e),
  reached n 3 cs (short_stops n),
)

-- 2 exactly where, left to right, there is no code, or a quorum out of range.
pub front_two : (n : ℕ) (cs : List ℕ) → read_front n cs ≡ stopped 2 ↔ NoCode n cs
front_two n cs = (
  λ e. narrowed n cs (λ tail. ⊎_elim (λ h. absurd (omega arith)) (λ h. h.1)) (stopped_at n 2 cs e),
  reached n 2 cs (strange_stops n),
)

-- A term and the bytes after it exactly where the list is the term's codes and then these bytes.
pub front_found : (n : ℕ) (cs : List ℕ) (t : Term) (rest : List ℕ) → read_front n cs ≡ found t rest ↔ ((cs ≡ codes t ++ rest) × NamesBelow n t)
front_found n cs t rest = (front_sound n cs t rest, λ h. rw h.0 (front_codes n t rest h.1))

-- the reader stops with no other number
stopped_number : (n r : ℕ) (cs : List ℕ) → read_front n cs ≡ stopped r → (2 ≤ r) × (r ≤ 3)
stopped_number n r cs e = ⊎_elim (λ h. (omega arith, omega arith)) (λ h. (omega arith, omega arith)) (stopped_at n r cs e).left

-- what is strange stays so, whatever follows
range_more : (after more : List ℕ) → OutOfRange after → OutOfRange (after ++ more)
range_more [] more h = absurd h
range_more (k ∷ []) more h = absurd h
range_more (k ∷ m ∷ after) more h = h

strange_more : (n : ℕ) (tail more : List ℕ) → Strange n tail → Strange n (tail ++ more)
strange_more n [] more h = absurd h
strange_more n (c ∷ after) more h = ⊎_elim (λ e. inl e) (λ e. inr (e.0, range_more after more e.1)) h

-- A proper beginning of the codes of a term, wherever it ends, ends too early. (Not only these: 32 FF begins no term.)
pub proper_ends : (n : ℕ) (t : Term) → NamesBelow n t → (cs : List ℕ) (x : ℕ) (more : List ℕ) → codes t ≡ cs ++ (x ∷ more) → EndsEarly n cs
proper_ends n t h cs x more e = by (read_front n cs) refl
  where
    whole_read : read_front n (cs ++ (x ∷ more)) ≡ found t []
    whole_read = ap (read_front n) (sym e ∙ sym (append-nil (codes t))) ∙ front_codes n t [] h

    no_strange : NoCode n cs → ⊥
    no_strange b =
        let w : cs ++ (x ∷ more) ≡ b.front ++ (b.tail ++ (x ∷ more)) = ap (λ (l : List ℕ). l ++ (x ∷ more)) b.written ∙ append_assoc b.front b.tail (x ∷ more) in
        let f : read_front n (cs ++ (x ∷ more)) ≡ stopped 2 = (front_two n (cs ++ (x ∷ more))).1
        record { front = b.front; tail = b.tail ++ (x ∷ more); written = w; begins = b.begins; left = strange_more n b.tail (x ∷ more) b.left } in
        let z : ◌≡◌ {A = ℕ} 0 1 = cc (whole_read, f) in omega arith

    by : (r : Front Term) → read_front n cs ≡ r → EndsEarly n cs
    by (found u rest) f =
        let d = front_sound n cs u rest f in
        let w : codes t ++ [] ≡ codes u ++ (rest ++ (x ∷ more)) = append-nil (codes t) ∙ e ∙ ap (λ (l : List ℕ). l ++ (x ∷ more)) d.0 ∙ append_assoc (codes u) rest (x ∷ more) in
        let g = codes_unique n t u [] (rest ++ (x ∷ more)) h d.1 w in
        absurd (omega (arith, ap length g.1, length-append rest (x ∷ more)))
    by (stopped r) f = elim (ℕ_discrete r 2) [
      | yes q ↦ absurd (no_strange ((front_two n cs).0 (rw q at f)))
      | no d ↦ (let q : r ≡ 3 = omega (arith, stopped_number n r cs f) in (front_three n cs).0 (rw q at f))
    ]

-- what `all_read` refused
record Left (f : Front Term) : Type 0 where
  term : Term
  next : ℕ
  rest : List ℕ
  is : f ≡ found term (next ∷ rest)

all_refused : (f : Front Term) (r : ℕ) → all_read f ≡ refused r → (f ≡ stopped r) ⊎ ((r ≡ 4) × Left f)
all_refused (found t []) r e = absurd (let z : ◌≡◌ {A = ℕ} 0 1 = cc in omega arith)
all_refused (found t (c ∷ rest)) r e = inr (cc, record { term = t; next = c; rest = rest; is = refl })
all_refused (stopped k) r e = inl (cc)

-- 1 exactly for the wrong length.
pub refused_one : (n : ℕ) (cs : List ℕ) → read_term n cs ≡ refused 1 ↔ WrongLength cs
refused_one n cs = (
  term_case n cs (λ a. a ≡ refused 1 → WrongLength cs)
      (λ a b e. ⊎_elim (λ f. absurd (omega (arith, stopped_number n 1 cs f))) (λ f. absurd (omega arith)) (all_refused (read_front n cs) 1 e))
      (λ h _. elim (dec_lt 64 (length cs)) [ yes l ↦ inr l | no l ↦ inl (elim (dec_lt 0 (length cs)) [ yes k ↦ absurd (h k (omega arith)) | no k ↦ omega arith ]) ]),
  λ h. term_case n cs (λ a. a ≡ refused 1) (λ a b. ⊎_elim (λ l. absurd (omega arith)) (λ l. absurd (omega arith)) h) (λ _. refl),
)

-- Of the right length, any other number at which the reader stops is the answer, and the other way round.
refused_stop : (n r : ℕ) (cs : List ℕ) → 2 ≤ r → r ≤ 3 → read_term n cs ≡ refused r ↔ (RightLength cs × (read_front n cs ≡ stopped r))
refused_stop n r cs h i = (
  term_case n cs (λ a. a ≡ refused r → RightLength cs × (read_front n cs ≡ stopped r))
      (λ a b e. ((a, b), ⊎_elim (λ f. f) (λ f. absurd (omega arith)) (all_refused (read_front n cs) r e)))
      (λ _ e. let z : 1 ≡ r = cc in absurd (omega arith)),
  λ k. term_within n cs k.0.0 k.0.1 ∙ ap all_read k.1,
)

-- 2 exactly where, left to right, a byte is no code, or a name not below n.
pub refused_two : (n : ℕ) (cs : List ℕ) → read_term n cs ≡ refused 2 ↔ (RightLength cs × NoCode n cs)
refused_two n cs =
    let s = refused_stop n 2 cs (omega arith) (omega arith) in
    let f = front_two n cs in
    (λ e. let k = s.0 e in (k.0, f.0 k.1), λ k. s.1 (k.0, f.1 k.1))

-- 3 exactly where the codes end too early.
pub refused_three : (n : ℕ) (cs : List ℕ) → read_term n cs ≡ refused 3 ↔ (RightLength cs × EndsEarly n cs)
refused_three n cs =
    let s = refused_stop n 3 cs (omega arith) (omega arith) in
    let f = front_three n cs in
    (λ e. let k = s.0 e in (k.0, f.0 k.1), λ k. s.1 (k.0, f.1 k.1))

-- 4 exactly where codes are left after the term.
pub refused_four : (n : ℕ) (cs : List ℕ) → read_term n cs ≡ refused 4 ↔ (RightLength cs × CodesLeft n cs)
refused_four n cs = (
  term_case n cs (λ a. a ≡ refused 4 → RightLength cs × CodesLeft n cs)
      (λ a b e. ((a, b), ⊎_elim (λ f. absurd (omega (arith, stopped_number n 4 cs f))) (λ f. codes_left f.1) (all_refused (read_front n cs) 4 e)))
      (λ _ e. let z : ◌≡◌ {A = ℕ} 1 4 = cc in absurd (omega arith)),
  λ k.
      let l = k.1 in
      term_within n cs k.0.0 k.0.1 ∙ ap all_read ((front_found n cs l.term (l.next ∷ l.rest)).1 (l.written, l.below)),
)
  where
    codes_left : Left (read_front n cs) → CodesLeft n cs
    codes_left f =
        let s = front_sound n cs f.term (f.next ∷ f.rest) f.is in
        record { term = f.term; below = s.1; next = f.next; rest = f.rest; written = s.0 }

-- A term is refused with no other number.
pub refused_number : (n : ℕ) (cs : List ℕ) (r : ℕ) → read_term n cs ≡ refused r → (1 ≤ r) × (r ≤ 4)
refused_number n cs r =
    term_case n cs (λ a. a ≡ refused r → (1 ≤ r) × (r ≤ 4))
    (λ a b e. ⊎_elim (λ f. let k = stopped_number n r cs f in (omega arith, omega arith)) (λ f. (omega arith, omega arith)) (all_refused (read_front n cs) r e))
    (λ _ e. let z : 1 ≡ r = cc in (omega arith, omega arith))

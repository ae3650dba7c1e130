-- Adding and withdrawing: what is held afterwards. Assumes nothing.
use mathlib.Core.Path.{◌≡◌, refl, sym, ap, ap₂, ◌∙◌, subst}
use Rattle.std.specs.Prelude.{Ok, Err}
use mathlib.Core.List.{List, [], ◌∷◌, ◌++◌}
use Prim.Native.Nat.{ℕ, suc, ◌+◌, ◌-◌, ◌*◌, ◌≤◌, ◌<◌}
use native.Mathlib.Omega.{arith}
use lib.ListN.{length, take, drop, get_or, length-append, length-take, length-drop}
use borrow.Author.Tests.{lt-ltb}
use Rattle.model.specs.Readings.{accepted, refused}
use Rattle.model.specs.Grants.{Grant, Under}
use Rattle.model.specs.Ledgers.{read_block, ledger_of}
use Rattle.model.specs.Answers as model
use Rattle.model.specs.Live as model_live
use Rattle.model.specs.Live.{Numbers, breaks_counting, grown, added, dropped_at, grant_at, shrunk, withdrawn, Call, add, withdraw, Step, altered, step, written, Good}
use Rattle.model.specs.Meanings.{bad_block, no_room}
use Rattle.model.proofs.Live.{holding_length, written_read, grant_get_or, add_refused_exactly, withdraw_refused_exactly, afresh-without, good_added, good_withdrawn, numbers_most}
use Rattle.words.specs.AnyBytes.{term_in}
use Rattle.words.specs.Evaluation.{job_of}
use Rattle.words.proofs.AnyBytes.{term_in_lem}
use Rattle.words.proofs.Names.{job_is}
use Rattle.refusals.specs.declared.Refusal.{Refusal}
use Rattle.refusals.specs.declared.Refusal.TheVariants.{Full, NoGrant}
use Rattle.refusals.specs.Numbers.{refusal_number}
use Rattle.refusals.specs.Results.{done}
use Rattle.refusals.proofs.Results.{done_refused}
use Rattle.ledgers.specs.declared.Sizes.{Sizes}
use Rattle.counting.specs.declared.Asked.{Asked}
use Rattle.counting.specs.Counted.{grant_in}
use Rattle.counting.proofs.Standing.{no_grant, grant_in_lem}
use Rattle.blocks.specs.Front.{end_of, Kept, Rewritten}
use Rattle.stored.specs.Stored.{more, Stored, Small, under_asked}
use Rattle.stored.proofs.Storing.{stored_cong}
use Rattle.live.specs.declared.Live.{Live}
use Rattle.live.specs.Held.{AskedOf, Holds, Stepped}

-- ---- what is asked

-- it is asked of the head's number of names
pub names_asked : (live : Live) (part : List ℕ) (grants : ℕ) (asked : Asked) → AskedOf live part grants asked → asked.sizes.names ≡ live.names
names_asked live part grants asked a = ap (λ (s : Sizes). s.names) a.sizes

-- ---- what is held

module _ (live : Live) (ledger planes : List ℕ) (x : model_live.Live) (h : Holds live ledger planes x) where
  -- by the head's own number of names
  pub kept_live : Kept ledger live.names x.blocks
  kept_live = rw h.names h.kept

  pub stored_live : Stored live.names planes x.numbers
  stored_live = rw h.names h.numbers

  pub job_live : job_of live.names ≡ x.asked.names
  job_live = job_is live.names kept_live.names ∙ h.names

  -- what the grants are judged under
  pub asked_live : (part : List ℕ) (grants : ℕ) (asked : Asked) → AskedOf live part grants asked → under_asked asked ≡ x.asked
  asked_live part grants asked a =
      let label : term_in asked.label.now ≡ x.asked.label = ap term_in (a.label ∙ h.label) ∙ term_in_lem x.asked.names x.label x.asked.label h.good.label_read in
      rw (a.sizes, a.day, job_live, label, h.day)

  pub small_live : Small x.numbers
  small_live s c = let m = numbers_most x h.good s c in omega (arith, m.0, m.1)

-- a grant's part, as the code judges it, is that of the grant under what the live ledger is asked under
pub part_is : (u v : Under) (d g : Grant) → u ≡ v → d ≡ g → breaks_counting u d ≡ breaks_counting v g
part_is u v d g e f = ap₂ breaks_counting e f

-- a call that is refused
refused_step : (call : Call) (live : Live) (ledger planes : List ℕ) (x : model_live.Live) (why : Refusal) → Holds live ledger planes x
    → step call x ≡ record { next = x; reply = model.Refused (refusal_number why) } → Stepped call x live ledger (Err why) ledger planes
refused_step call live ledger planes x why h e =
    let next : x ≡ (step call x).next = sym (ap (λ (s : Step). s.next) e) in
    record {
      reply_is = sym (ap (λ (s : Step). s.reply) e);
      next_held = subst (Holds live ledger planes) next h;
      later = refl;
    }

-- and one that is done
done_step : (call : Call) (live next : Live) (ledger ledger' planes : List ℕ) (x y : model_live.Live) → step call x ≡ record { next = y; reply = model.Yes }
    → Holds next ledger' planes y → drop (end_of y.blocks) ledger' ≡ drop (end_of y.blocks) ledger → Stepped call x live ledger (Ok next) ledger' planes
done_step call live next ledger ledger' planes x y e h later =
    let stepped : y ≡ (step call x).next = sym (ap (λ (s : Step). s.next) e) in
    record {
      reply_is = sym (ap (λ (s : Step). s.reply) e);
      next_held = subst (Holds next ledger' planes) stepped h;
      later = subst (λ (z : model_live.Live). drop (end_of z.blocks) ledger' ≡ drop (end_of z.blocks) ledger) stepped later;
    }

-- ---- adding

last_grant : (gs : List Grant) (g d : Grant) → get_or (gs ++ g ∷ []) (length gs) d ≡ g
last_grant [] g d = refl
last_grant (h ∷ gs) g d = last_grant gs g d

module _ (live : Live) (ledger planes block : List ℕ) (x : model_live.Live) (h : Holds live ledger planes x) where
  pub add_refused : (why : Refusal) → refused (refusal_number why) ≡ done (read_block live.names block) → Stepped (add block) x live ledger (Err why) ledger planes
  unfolding step
  add_refused why e =
      let read : read_block x.asked.names block ≡ refused (refusal_number why) = rw (← h.names) (done_refused (read_block live.names block) _ e) in
      refused_step (add block) live ledger planes x why h (ap (altered x) ((add_refused_exactly x block _).1 (bad_block _ read)))

  module _ (g : Grant) (read : read_block live.names block ≡ accepted g) where
    abbrev own : read_block x.asked.names block ≡ accepted g
    own = rw (← h.names) read

    pub add_full : 64 ≤ live.held → Stepped (add block) x live ledger (Err Full) ledger planes
    unfolding step
    add_full full = refused_step (add block) live ledger planes x Full h (ap (altered x) ((add_refused_exactly x block 87).1 (no_room g own (omega (arith, h.held)))))

    module _ (room : live.held < 64) where
      can : added x block ≡ accepted (grown x block g)
      unfolding added
      can = rw (own, lt-ltb (length x.blocks) 64 (omega (arith, h.held)))

      good_grown : Good (grown x block g)
      good_grown = good_added x block (grown x block g) h.good can

      module _ (ledger' : List ℕ) (new : Rewritten ledger live.names (x.blocks ++ block ∷ []) ledger') where
        -- the grant that was added, read off the bytes
        pub new_grant : (part : List ℕ) → part ≡ take (512 * (live.held + 2)) ledger' → grant_in part live.held ≡ g
        new_grant part e =
            let count : length (x.blocks ++ block ∷ []) ≡ length x.blocks + 1 = length-append x.blocks (block ∷ []) in
            let end : 512 * (live.held + 2) ≡ end_of (x.blocks ++ block ∷ []) = omega (arith, h.held) in
            let whole : part ≡ written (grown x block g) = e ∙ ap (λ (i : ℕ). take i ledger') end ∙ new.kept.front ∙ ap (λ (n : ℕ). ledger_of n (x.blocks ++ block ∷ [])) h.names in
            let at : live.held ≡ length x.grants = h.held ∙ holding_length h.good.blocks_read in
            ap (λ (b : List ℕ). grant_in b live.held) whole
            ∙ grant_in_lem (written (grown x block g)) (record { names = x.asked.names; grants = x.grants ++ g ∷ [] }) live.held no_grant (written_read (grown x block g) good_grown) (omega (arith, length-append x.grants (g ∷ [])))
            ∙ ap (λ (k : ℕ). get_or (x.grants ++ g ∷ []) k no_grant) at ∙ last_grant x.grants g no_grant

        pub add_done : (planes' : List ℕ) → Stored live.names planes' (more x.numbers (breaks_counting x.asked g))
            → Stepped (add block) x live ledger (Ok (record { names = live.names; day = live.day; held = live.held + 1; codes = live.codes; label = live.label })) ledger' planes'
        unfolding step
        add_done planes' rows = done_step (add block) live _ ledger ledger' planes' x (grown x block g) (ap (altered x) can) (record {
          names = h.names;
          day = h.day;
          held = omega (arith, h.held, length-append x.blocks (block ∷ []));
          label = h.label;
          good = good_grown;
          kept = rw (← h.names) new.kept;
          numbers = subst (λ (n : ℕ). Stored n planes' (more x.numbers (breaks_counting x.asked g))) h.names rows;
        }) new.later

-- ---- withdrawing

module _ (live : Live) (ledger planes : List ℕ) (k : ℕ) (x : model_live.Live) (h : Holds live ledger planes x) where
  count : live.held ≡ length x.grants
  count = h.held ∙ holding_length h.good.blocks_read

  pub withdraw_none : live.held ≤ k → Stepped (withdraw k) x live ledger (Err NoGrant) ledger planes
  unfolding step
  withdraw_none past = refused_step (withdraw k) live ledger planes x NoGrant h (ap (altered x) ((withdraw_refused_exactly x k 88).1 (refl, omega (arith, count))))

  -- no live ledger holds more than 64
  pub held_few : live.held ≤ 64
  held_few = omega (arith, h.held, h.good.few)

  module _ (g : Grant) (is : grant_at x.grants k ≡ accepted g) where
    can_go : withdrawn x k ≡ accepted (shrunk x k g)
    unfolding withdrawn
    can_go = rw is

    -- the grant, read off the bytes
    pub gone_grant : (part : List ℕ) → k < live.held → part ≡ take (512 * (live.held + 1)) ledger → grant_in part k ≡ g
    gone_grant part below e =
        let end : 512 * (live.held + 1) ≡ end_of x.blocks = omega (arith, h.held) in
        let whole : part ≡ written x = e ∙ ap (λ (i : ℕ). take i ledger) end ∙ h.kept.front in
        ap (λ (b : List ℕ). grant_in b k) whole
        ∙ grant_in_lem (written x) (record { names = x.asked.names; grants = x.grants }) k no_grant (written_read x h.good) (omega (arith, count))
        ∙ grant_get_or x.grants k g no_grant is

    -- the numbers are those without it, with its part
    pub gone_part : Stored live.names planes (more (shrunk x k g).numbers (breaks_counting x.asked g))
    gone_part = stored_cong live.names planes x.numbers _ (λ s c. omega (arith, h.good.true_numbers s c, afresh-without x.asked s c x.grants k g is)) (stored_live live ledger planes x h)

    pub withdraw_done : (ledger' planes' : List ℕ) → k < live.held → Rewritten ledger live.names (dropped_at k x.blocks) ledger' → Stored live.names planes' (shrunk x k g).numbers
        → Stepped (withdraw k) x live ledger (Ok (record { names = live.names; day = live.day; held = live.held - 1; codes = live.codes; label = live.label })) ledger' planes'
    unfolding step
    withdraw_done ledger' planes' below new rows = done_step (withdraw k) live _ ledger ledger' planes' x (shrunk x k g) (ap (altered x) can_go) (record {
      names = h.names;
      day = h.day;
      held = omega (arith, h.held, length-append (take k x.blocks) (drop (suc k) x.blocks), length-take k x.blocks, length-drop (suc k) x.blocks);
      label = h.label;
      good = good_withdrawn x k (shrunk x k g) h.good can_go;
      kept = rw (← h.names) new.kept;
      numbers = subst (λ (n : ℕ). Stored n planes' (shrunk x k g).numbers) h.names rows;
    }) new.later

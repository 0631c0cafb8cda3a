-- A verifier beside what its answered calls brought: before the close its sums are those of the items, while messages pass its claim is
-- theirs, and a verdict that it has reached answers to the equations. Items and the close.
use mathlib.Core.Path.{◌≡◌, refl, sym, ap, ap₂, subst, ◌∙◌}
use mathlib.Core.Bool.{Bool, true, false, true≢false}
use mathlib.Core.List.{List, [], ◌∷◌}
use mathlib.Core.Option.{none}
use Prim.Native.Nat.{ℕ, suc, ◌*◌, ◌^◌, ◌≤◌, ◌<◌}
use native.Mathlib.Numerals.{add-one}
use native.Mathlib.Omega.{arith}
use lib.ListN.{length, length-append, get_or-append}
use lib.Seq.{get_or-append_seam}
use Rattle.algebra.specs.Mod.{residue, add_mod, mul_mod}
use Rattle.refusal.specs.Limit.{max_weight}
use Rattle.vector.specs.Vector.{Vector, at, weight}
use Rattle.vector.specs.Slice.{fifteen}
use Rattle.vector.proofs.Rounds.{rounds-at-most, rounds-enough}
use Rattle.vector.proofs.Sums.{sum_same}
use Rattle.vector.proofs.EndValues.{weighted, weighted-step}
use Rattle.verifier.specs.declared.Verifier.{Verifier}
use Rattle.verifier.specs.Sums.{entering, one_more}
use Rattle.verifier.specs.Claims.{closed_with, finds}
use Rattle.verifier.specs.Calls.{verdict_turn}
use Rattle.verifier.specs.Trips.{claim_at}
use Rattle.verifier.proofs.Invariant.{parts_of_lem, open_turn}
use Rattle.item.specs.declared.Start.{Start}
use Rattle.item.specs.declared.Given.{Given}
use Rattle.item.specs.declared.Given.TheVariants.{Numbers}
use Rattle.item.specs.Item.{contributes}
use Rattle.runs.specs.Trip.{trip_item, enters_as}
use Rattle.calls.specs.QueryState.{VerifierState, takes_item, at_round}
use Rattle.calls.specs.Starts.{Startable}
use Rattle.calls.specs.Verdict.{Brought, item_brought, claim_brought, trip_of, end_f, end_g, claim_in, AllPass}
use Rattle.calls.proofs.QueryStands.{Carries, Stands, verdict-closed}
use Rattle.calls.proofs.HeardTrip.{Fine, enters_f, enters_g, below_suc, end_f_lem, end_g_lem}
use Rattle.calls.proofs.HeardFollows.{more_f, more_g}
use Rattle.calls.proofs.VerdictFacts.{Found}

-- only the items summed count
weighted_same : (p : ℕ) (c : ℕ → ℕ) (n : ℕ) (u v : Vector) (k : ℕ) → ((i : ℕ) → i < k → u i ≡ v i) → weighted p c n u k ≡ weighted p c n v k
weighted_same p c n u v k same = ap (residue p) (sum_same k _ _ (λ i h. ap (λ x. x * weight p c n i) (same i h)))

module _ (p : ℕ) (s : Start) (cs : List ℕ) where
  abbrev n : ℕ
  n = s.rounds

  -- the challenges as the verifier keeps them
  abbrev pub held : ℕ → ℕ
  held = at (fifteen n cs)

  -- the running sums of the items brought
  pub record Sums (b : Brought) (v : Verifier) : Type 0 where
    pub taken : v.taken ≡ length b.items
    pub fine : (i : ℕ) → i < length b.items → Fine p s.plain (trip_item (trip_of p s cs b) i)
    pub fsum : v.fsum ≡ weighted p held n (enters_f p (trip_of p s cs b)) (length b.items)
    pub gsum : v.gsum ≡ weighted p held n (enters_g p (trip_of p s cs b)) (length b.items)

  -- before the close
  pub record Unclosed (b : Brought) (v : Verifier) : Type 0 where
    pub messages : b.messages ≡ []
    pub ends : b.ends ≡ none
    pub sums : Sums b v

  -- while messages pass
  pub record Passing (b : Brought) (a : VerifierState) (v : Verifier) : Type 0 where
    pub round : a.round ≡ length b.messages
    pub all : AllPass p s cs b (length b.messages)
    pub claim : v.claim ≡ claim_in p s cs b (length b.messages)
    pub ends : b.ends ≡ none
    pub sums : Sums b v

  -- before the close; while messages pass; where a verdict is reached
  pub data Phase (b : Brought) (a : VerifierState) (v : Verifier) : Type 0 where
    unclosed : a.closed ≡ false → Unclosed b v → Phase b a v
    passing : a.closed ≡ true → a.refuted ≡ false → Passing b a v → Phase b a v
    settled : verdict_turn v ≡ true → Found p s cs b (finds p v) → Phase b a v

  pub record Bears (b : Brought) (a : VerifierState) (v : Verifier) : Type 0 where
    pub stands : Stands p a v
    pub start : a.start ≡ s
    pub challenges : a.challenges ≡ cs
    pub phase : Phase b a v

  module _ (large : max_weight < p) (fits : Startable s) (listed : length cs ≡ n) where
    pub few : n ≤ 15
    few = omega (arith, fits.rounds, rounds-at-most s.items fits.most)

    enough : s.items ≤ 2 ^ n
    enough = rw fits.rounds (rounds-enough s.items fits.most)

    pub ends-own : (b : Brought) (v : Verifier) → Sums b v → length b.items ≡ s.items → (v.fsum ≡ end_f p s cs b) × (v.gsum ≡ end_g p s cs b)
    ends-own b v h all =
        let T = trip_of p s cs b in
        let fine : (i : ℕ) → i < s.items → Fine p s.plain (trip_item T i) = λ i l. h.fine i (omega arith) in (
          h.fsum ∙ ap (weighted p held n (enters_f p T)) all ∙ end_f_lem p large T enough fine few cs listed,
          h.gsum ∙ ap (weighted p held n (enters_g p T)) all ∙ end_g_lem p large T enough fine few cs listed,
        )

  module _ (b : Brought) (a : VerifierState) (v : Verifier) (h : Bears b a v) where
    pub carries : Carries s cs (length a.items) v
    carries = rw (h.start, h.challenges) at h.stands.carries

    settled-closed : verdict_turn v ≡ true → a.closed ≡ true
    settled-closed t = sym h.stands.closed ∙ verdict-closed v t

    pub unclosed_of : a.closed ≡ false → Unclosed b v
    unclosed_of e = by h.phase
      where
        by : Phase b a v → Unclosed b v
        by (unclosed c u) = u
        by (passing c r g) = absurd (true≢false (sym c ∙ e))
        by (settled t f) = absurd (true≢false (sym (settled-closed t) ∙ e))

    -- ONE ITEM MORE
    module _ (x : Given) where
      abbrev more : Brought
      more = item_brought b x

      abbrev k : ℕ
      k = length b.items

      items_more : length more.items ≡ suc k
      items_more = length-append b.items (x ∷ []) ∙ add-one k

      item_same : (i : ℕ) → i < k → trip_item (trip_of p s cs more) i ≡ trip_item (trip_of p s cs b) i
      item_same i l = get_or-append b.items (x ∷ []) (Numbers 0 0) i l

      item-newest : trip_item (trip_of p s cs more) k ≡ x
      item-newest = get_or-append_seam b.items x [] (Numbers 0 0)

      sums_more : Sums b v → Fine p s.plain x → Sums more (one_more p v (contributes p v.start x).f (contributes p v.start x).g)
      unfolding one_more entering
      sums_more m fine =
          let c = carries in
          let T = trip_of p s cs b in
          let U = trip_of p s cs more in
          record {
            taken = add-one v.taken ∙ ap suc m.taken ∙ sym items_more;
            fine =
                subst (λ j. (i : ℕ) → i < j → Fine p s.plain (trip_item U i)) (sym items_more)
                (below_suc (λ i. Fine p s.plain (trip_item U i)) k
                (λ i l. subst (Fine p s.plain) (sym (item_same i l)) (m.fine i l))
                (subst (Fine p s.plain) (sym item-newest) fine));
            fsum =
                more_f p s cs k (contributes p v.start x).f v.fsum _ v.start v.challenges v.taken m.fsum c.start c.challenges m.taken
                ∙ ap (λ (t : Start). add_mod p (weighted p held n (enters_f p T) k) (mul_mod p (enters_as p s k (contributes p t x).f) (weight p held n k))) c.start
                ∙ ap₂ (λ y z. add_mod p y (mul_mod p (enters_as p s k (contributes p s z).f) (weight p held n k)))
                (weighted_same p held n (enters_f p T) (enters_f p U) k (λ i l. ap (λ z. enters_as p s i (contributes p s z).f) (sym (item_same i l))))
                (sym item-newest)
                ∙ weighted-step p held n (enters_f p U) k
                ∙ ap (weighted p held n (enters_f p U)) (sym items_more);
            gsum =
                more_g p s cs k (contributes p v.start x).g v.gsum _ v.start v.challenges v.taken m.gsum c.start c.challenges m.taken
                ∙ ap (λ (t : Start). add_mod p (weighted p held n (enters_g p T) k) (mul_mod p (contributes p t x).g (weight p held n k))) c.start
                ∙ ap₂ (λ y z. add_mod p y (mul_mod p (contributes p s z).g (weight p held n k)))
                (weighted_same p held n (enters_g p T) (enters_g p U) k (λ i l. ap (λ z. (contributes p s z).g) (sym (item_same i l))))
                (sym item-newest)
                ∙ weighted-step p held n (enters_g p U) k
                ∙ ap (weighted p held n (enters_g p U)) (sym items_more);
          }

      pub item-phase : a.closed ≡ false → Fine p s.plain x → Phase more (takes_item a x) (one_more p v (contributes p v.start x).f (contributes p v.start x).g)
      item-phase e fine = let u = unclosed_of e in unclosed e (record { messages = u.messages; ends = u.ends; sums = sums_more u.sums fine })

    -- A CLOSE
    not_refuted : a.closed ≡ false → a.refuted ≡ false
    not_refuted e = by a.refuted refl
      where
        by : (r : Bool) → a.refuted ≡ r → r ≡ false
        by false r = refl
        by true r = absurd (true≢false (sym (settled-closed (h.stands.over r).0) ∙ e))

    no-round : a.closed ≡ false → a.round ≡ 0
    no-round e =
        sym (h.stands.going (not_refuted e)).1
        ∙ (open_turn v (parts_of_lem v h.stands.carries.formed).turn (h.stands.closed ∙ e)).first

    pub close-phase : (claim : ℕ) → a.closed ≡ false → Phase (claim_brought b claim) (at_round a a.round a.refuted) (closed_with v claim)
    unfolding closed_with claim_at
    close-phase claim e =
        let u = unclosed_of e in
        let none_yet : length b.messages ≡ 0 = ap length u.messages in
        let m = u.sums in
        passing refl (not_refuted e)
        (record {
          round = no-round e ∙ sym none_yet;
          all = λ i l. absurd (omega arith);
          claim = ap (claim_in p s cs (claim_brought b claim)) (sym none_yet);
          ends = u.ends;
          sums = record { taken = m.taken; fine = m.fine; fsum = m.fsum; gsum = m.gsum };
        })

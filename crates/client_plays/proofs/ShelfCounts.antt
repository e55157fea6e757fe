-- The faults of shelves that a log tells, by what its clients did.
use Rattle.std.proofs.Common.{◌≡◌, ◌≢◌, ℕ, zero, suc, ◌≤◌, ◌+◌, Bool, true, false, List, [], ◌∷◌, ◌++◌, refl, ap, sym, ◌∙◌, subst, inl, inr, arith, eq-eqb}
use Rattle.std.proofs.lemmas.Bool.{ne_eqb, or_parts}
use Rattle.std.proofs.lemmas.Bool.Decides.{eqb_tells}
use Rattle.std.specs.List.{list_any}
use Rattle.std.specs.Prelude.{◌==◌, ◌&&◌, Option, Some, None, option_map, slice_get, unwrap_or, if◌then◌else◌}
use Rattle.update_log.proofs.Lists.{by_test}
use Rattle.update_log.specs.declared.event.Event.{Event}
use Rattle.update_log.specs.Pasts.{client_of, is_boot, is_of}
use Rattle.client_plays.specs.Faults.{Counted, FaultsTold, ShelvesCount, faults_in, is_of_shelf, shelf_faults, tells_shelf_fault}
use Rattle.client_plays.specs.Moments.{Grew, at, mine}
use Rattle.client_plays.specs.Tools.{ShelfStays, ShelfTold, ShelvesStay, shelf_of}
use Rattle.client_plays.proofs.FaultLaws.{count-both, count-less, faults-append, faults-one}
use Rattle.client_plays.proofs.MomentLaws.{mine-other, mine-own}

-- ---- one event

abbrev bit : Bool → ℕ
bit b = if b then 1 else 0

bit-more : (b : Bool) (n : ℕ) → (if b then n + 1 else n) ≡ n + bit b
bit-more true n = refl
bit-more false n = omega arith

-- What a client's own tell, with one event more.
own-more : (client : ℕ) (past : List Event) (event : Event) → is_boot event ≡ false → faults_in (mine client (event ∷ past)) ≡ faults_in (mine client past) + bit (is_of client event && tells_shelf_fault event)
own-more client past event b =
    by_test (is_of client event) _
    (λ t.
    ap faults_in (mine-own client past event b t)
    ∙ faults-append (mine client past) (at past event ∷ [])
    ∙ ap (λ (n : ℕ). faults_in (mine client past) + n) (faults-one (at past event))
    ∙ ap (λ (o : Bool). faults_in (mine client past) + bit (o && tells_shelf_fault event)) (sym t))
    (λ f.
    ap faults_in (mine-other client past event b f)
    ∙ (omega arith)
    ∙ ap (λ (o : Bool). faults_in (mine client past) + bit (o && tells_shelf_fault event)) (sym f))

-- Whose shelf it is.
abbrev of : ℕ → Option ℕ → Bool
of client o = unwrap_or (option_map (λ c. c == client) o) false

abbrev of_shelf : ℕ → Option ℕ → Bool
of_shelf place o = unwrap_or (option_map (λ c. shelf_of c == place) o) false

first-of : (c : ℕ) (t : Bool) → bit ((shelf_of c == 0) && t) ≡ bit ((c == 0) && t) + bit ((c == 1) && t)
first-of c t =
    elim (eqb_tells c 0) [
      | inl a ↦
          let s : (shelf_of c == 0) ≡ true = eq-eqb (shelf_of c) 0 (let e : c ≡ 0 = a.1 in omega arith) in
          let n : (c == 1) ≡ false = ne_eqb c 1 (λ x. let e : c ≡ 0 = a.1 in omega arith) in
          rw (s, a.0, n) (omega arith)
      | inr a ↦
          elim (eqb_tells c 1) [
            | inl b ↦ let s : (shelf_of c == 0) ≡ true = eq-eqb (shelf_of c) 0 (let e : c ≡ 1 = b.1 in omega arith) in rw (s, a.0, b.0) (omega arith)
            | inr b ↦
                let s : (shelf_of c == 0) ≡ false = ne_eqb (shelf_of c) 0 (λ x. let z : c ≢ 0 = a.1 in let o : c ≢ 1 = b.1 in omega arith) in
                rw (s, a.0, b.0) refl
          ]
    ]

first-told : (o : Option ℕ) (t : Bool) → bit (of_shelf 0 o && t) ≡ bit (of 0 o && t) + bit (of 1 o && t)
first-told None t = refl
first-told (Some c) t = first-of c t

other-of : (c n : ℕ) → (shelf_of c == suc n) ≡ (c == suc (suc n))
other-of c n =
    elim (eqb_tells c (suc (suc n))) [
      | inl a ↦ eq-eqb (shelf_of c) (suc n) (let e : c ≡ suc (suc n) = a.1 in omega arith) ∙ sym a.0
      | inr a ↦ ne_eqb (shelf_of c) (suc n) (λ x. let z : c ≢ suc (suc n) = a.1 in z (omega arith)) ∙ sym a.0
    ]

other-told : (o : Option ℕ) (n : ℕ) (t : Bool) → bit (of_shelf (suc n) o && t) ≡ bit (of (suc (suc n)) o && t)
other-told None n t = refl
other-told (Some c) n t = ap (λ (b : Bool). bit (b && t)) (other-of c n)

-- ---- a past that grew within a boot

-- How many faults of a shelf the own events of its clients tell, in the boot that runs.
abbrev shelf_own : ℕ → List Event → ℕ
shelf_own zero past = faults_in (mine 0 past) + faults_in (mine 1 past)
shelf_own (suc n) past = faults_in (mine (suc (suc n)) past)

own-event : (place : ℕ) (past : List Event) (event : Event) → is_boot event ≡ false → shelf_own place (event ∷ past) ≡ shelf_own place past + bit (is_of_shelf place event && tells_shelf_fault event)
own-event zero past event b =
    let x = own-more 0 past event b in
    let y = own-more 1 past event b in
    let z = first-told (client_of event) (tells_shelf_fault event) in
    omega (arith, x, y, z)
own-event (suc n) past event b =
    own-more (suc (suc n)) past event b ∙ ap (λ (k : ℕ). faults_in (mine (suc (suc n)) past) + k) (sym (other-told (client_of event) n (tells_shelf_fault event)))

grown-both : (told told' k own own' start mine : ℕ) → told' ≡ told + k → own' ≡ own + k → told + mine ≡ start + own → told' + mine ≡ start + own'
grown-both told told' k own own' start mine a b c = omega arith

grown-more : (place : ℕ) (more past : List Event) → list_any is_boot more ≡ false → shelf_faults place (more ++ past) + shelf_own place past ≡ shelf_faults place past + shelf_own place (more ++ past)
grown-more place [] past b = refl
grown-more place (event ∷ more) past b =
    let p = or_parts (is_boot event) (list_any is_boot more) b in
    grown-both (shelf_faults place (more ++ past)) (shelf_faults place (event ∷ (more ++ past))) (bit (is_of_shelf place event && tells_shelf_fault event)) (shelf_own place (more ++ past)) (shelf_own place (event ∷ (more ++ past))) (shelf_faults place past) (shelf_own place past)
    (bit-more (is_of_shelf place event && tells_shelf_fault event) (shelf_faults place (more ++ past)))
    (own-event place (more ++ past) event p.0)
    (grown-more place more past p.1)

shelf-grown : (place : ℕ) (old new : List Event) → Grew old new → shelf_faults place new + shelf_own place old ≡ shelf_faults place old + shelf_own place new
shelf-grown place old new g =
    subst (λ (p : List Event). shelf_faults place p + shelf_own place old ≡ shelf_faults place old + shelf_own place p) (sym g.are) (grown-more place g.more old g.no_boot)

-- ---- one shelf

count-along : (told told' own own' x y : ℕ) → told' + own ≡ told + own' → Counted own own' x y → Counted told told' x y
count-along told told' own own' x y e c = elim c [ inl l ↦ inl (omega arith) | inr h ↦ inr h ]

first-both : (a a' b b' x y : ℕ) → b' ≡ b → Counted a a' x y → Counted (a + b) (a' + b') x y
first-both a a' b b' x y e c = elim c [ inl l ↦ inl (omega arith) | inr h ↦ inr h ]

second-both : (a a' b b' x y : ℕ) → a' ≡ a → Counted b b' x y → Counted (a + b) (a' + b') x y
second-both a a' b b' x y e c = elim c [ inl l ↦ inl (omega arith) | inr h ↦ inr h ]

module _ (old new : List Event) (g : Grew old new) where
  -- The daemon's, as the daemon alone did anything.
  pub count-first : (x y : ℕ) → mine 1 new ≡ mine 1 old → FaultsTold (mine 0 old) (mine 0 new) x y → Counted (shelf_faults 0 old) (shelf_faults 0 new) x y
  count-first x y one c =
      count-along (shelf_faults 0 old) (shelf_faults 0 new) (shelf_own 0 old) (shelf_own 0 new) x y (shelf-grown 0 old new g)
      (first-both (faults_in (mine 0 old)) (faults_in (mine 0 new)) (faults_in (mine 1 old)) (faults_in (mine 1 new)) x y (ap faults_in one) c)

  -- A client's, as the daemon did nothing.
  pub count-client : (place x y : ℕ) → mine 0 new ≡ mine 0 old → FaultsTold (mine (suc place) old) (mine (suc place) new) x y → Counted (shelf_faults place old) (shelf_faults place new) x y
  count-client zero x y none c =
      count-along (shelf_faults 0 old) (shelf_faults 0 new) (shelf_own 0 old) (shelf_own 0 new) x y (shelf-grown 0 old new g)
      (second-both (faults_in (mine 0 old)) (faults_in (mine 0 new)) (faults_in (mine 1 old)) (faults_in (mine 1 new)) x y (ap faults_in none) c)
  count-client (suc n) x y none c =
      count-along (shelf_faults (suc n) old) (shelf_faults (suc n) new) (shelf_own (suc n) old) (shelf_own (suc n) new) x y (shelf-grown (suc n) old new g) c

  -- One whose clients did nothing.
  pub count-quiet : (place x y : ℕ) → mine 0 new ≡ mine 0 old → mine (suc place) new ≡ mine (suc place) old → x ≤ y → Counted (shelf_faults place old) (shelf_faults place new) x y
  count-quiet place x y none same l =
      count-client place x y none (count-less (faults_in (mine (suc place) old)) (faults_in (mine (suc place) new)) x y (let e : faults_in (mine (suc place) new) ≡ faults_in (mine (suc place) old) = ap faults_in same in omega arith) l)

  -- One that isn't the daemon's, as the daemon alone did anything.
  pub count-other : (n x y : ℕ) → mine (suc (suc n)) new ≡ mine (suc (suc n)) old → x ≤ y → Counted (shelf_faults (suc n) old) (shelf_faults (suc n) new) x y
  count-other n x y same l =
      count-along (shelf_faults (suc n) old) (shelf_faults (suc n) new) (shelf_own (suc n) old) (shelf_own (suc n) new) x y (shelf-grown (suc n) old new g)
      (count-less (shelf_own (suc n) old) (shelf_own (suc n) new) x y (let e : faults_in (mine (suc (suc n)) new) ≡ faults_in (mine (suc (suc n)) old) = ap faults_in same in omega arith) l)

-- ---- all shelves

pub some-same : {X : Type 0} (o : Option X) (x y : X) → o ≡ Some x → o ≡ Some y → x ≡ y
some-same o x y a b = let e : Some x ≡ Some y = sym a ∙ b in cc

-- Nothing more is told.
pub shelves-count_same : (before now : List Event) (shelves : List ShelfTold) → ((place : ℕ) → shelf_faults place now ≡ shelf_faults place before) → ShelvesCount before now shelves shelves
shelves-count_same before now shelves e place was is a b =
    let same : was ≡ is = some-same (slice_get shelves place) was is a b in
    let told : shelf_faults place now ≡ shelf_faults place before = e place in
    let count : was.faults ≡ is.faults = ap (λ (s : ShelfTold). s.faults) same in
    count-less (shelf_faults place before) (shelf_faults place now) was.faults is.faults (omega arith) (omega arith)

pub shelves-count_here : (past : List Event) (shelves : List ShelfTold) → ShelvesCount past past shelves shelves
shelves-count_here past shelves = shelves-count_same past past shelves (λ place. refl)

-- The shelf that stayed there.
record StaysAt (new : List ShelfTold) (place : ℕ) (was : ShelfTold) : Type 0 where
  is : ShelfTold
  there : slice_get new place ≡ Some is
  stays : ShelfStays was is

stays-at : (old new : List ShelfTold) (place : ℕ) (was : ShelfTold) → ShelvesStay old new → slice_get old place ≡ Some was → StaysAt new place was
stays-at [] new place was s e = cc
stays-at (o ∷ old) [] place was s e = absurd s
stays-at (o ∷ old) (n ∷ new) zero was s e = record { is = n; there = refl; stays = subst (λ (x : ShelfTold). ShelfStays x n) (some-same (Some o) o was refl e) s.0 }
stays-at (o ∷ old) (n ∷ new) (suc place) was s e = let r = stays-at old new place was s.1 e in record { is = r.is; there = r.there; stays = r.stays }

-- One stretch after another.
pub shelves-count_both : (a b c : List Event) (x y z : List ShelfTold) → ShelvesStay x y → ShelvesStay y z → ShelvesCount a b x y → ShelvesCount b c y z → ShelvesCount a c x z
shelves-count_both a b c x y z s t p q place was is e f =
    let m = stays-at x y place was s e in
    let n = stays-at y z place m.is t m.there in
    let same : n.is ≡ is = some-same (slice_get z place) n.is is n.there f in
    let rose : m.is.faults ≤ is.faults = subst (λ (k : ShelfTold). m.is.faults ≤ k.faults) same n.stays.counts in
    count-both (shelf_faults place a) (shelf_faults place b) (shelf_faults place c) was.faults m.is.faults is.faults
    (p place was m.is e m.there) (q place m.is is m.there f) rose

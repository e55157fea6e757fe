-- A legal log whose boot ends with nothing out ends idle.
use Rattle.std.proofs.Common.{◌≡◌, ◌⊎◌, ℕ, Bool, true, false, ◌||◌, List, [], ◌∷◌, ◌++◌, refl, ap, sym, ◌∙◌, subst, inl, inr}
use Rattle.std.proofs.lemmas.Bool.{eqb-true, eq-eqb, or_parts}
use Rattle.std.specs.Prelude.{Some, None, ◌==◌, find, not}
use Rattle.std.specs.List.{list_any, AllByRecursion}
use Rattle.daemon_core.proofs.ClaimOpen.{live-push}
use Rattle.update_log.proofs.Lists.{turned}
use Rattle.update_log.proofs.Lists.{All-both, All-filter, All-map, All-push, by_test}
use Rattle.update_log.specs.declared.answer.ClaimAnswer.{ClaimAnswer}
use Rattle.update_log.specs.declared.answer.ResumeAnswer.{ResumeAnswer}
use Rattle.update_log.specs.declared.event.Back.{Back}
use Rattle.update_log.specs.declared.event.Event.{Event}
use Rattle.update_log.specs.declared.live.Held.{Held}
use Rattle.update_log.specs.declared.live.LiveEntry.{LiveEntry}
use Rattle.update_log.specs.declared.live.OpenStep.{OpenStep}
use Rattle.update_log.specs.Holding.{blocks_out, held, is_live, live, open_steps, without_entry}
use Rattle.update_log.specs.Legal.{Allowed, IsLegal}
use Rattle.update_log.specs.Once.{takes}
use Rattle.update_log.specs.Pasts.{finishes, is_boot, off, puts_off}
use Rattle.update_log.specs.Shows.{Campaign}
use Rattle.client_plays.specs.Endings.{IsIdle}
use Rattle.client_plays.specs.Idle.{EndsIdle, IsEndedBy, IsGivenBack, Taking, given_back, gives_back}

or-true : (a : Bool) → (a || true) ≡ true
or-true true = refl
or-true false = refl

-- ---- live entries

live-last : (xs : List LiveEntry) (l : LiveEntry) (entry : ℕ) → (l.entry == entry) ≡ true → is_live (xs ++ l ∷ []) entry ≡ true
live-last [] l entry e = rw e refl
live-last (x ∷ xs) l entry e = let rest : is_live (xs ++ l ∷ []) entry ≡ true = live-last xs l entry e in rw rest (or-true (x.entry == entry))

live-without : (gone : ℕ) (xs : List LiveEntry) (entry : ℕ) → (entry == gone) ≡ false → is_live xs entry ≡ true → is_live (without_entry gone xs) entry ≡ true
live-without gone [] entry n e = cc
live-without gone (x ∷ xs) entry n e =
    by_test (x.entry == entry) _
    (λ t. let k : (x.entry == gone) ≡ false = ap (λ (m : ℕ). m == gone) (eqb-true x.entry entry t) ∙ n in rw (k, t) refl)
    (λ f. let rest : is_live (without_entry gone xs) entry ≡ true = live-without gone xs entry n (rw f at e) in
    by_test (x.entry == gone) _ (λ t. rw t rest) (λ k. rw (k, f) rest))

live-found : (xs : List LiveEntry) (entry : ℕ) (l : LiveEntry) → find (λ (x : LiveEntry). x.entry == entry) xs ≡ Some l → is_live xs entry ≡ true
live-found [] entry l e = cc
live-found (x ∷ xs) entry l e = by_test (x.entry == entry) _ (λ t. rw t refl) (λ f. rw f (live-found xs entry l (rw f at e)))

flip-eqb : (m n : ℕ) → (m == n) ≡ true → (n == m) ≡ true
flip-eqb m n e = eq-eqb n m (sym (eqb-true m n e))

-- One event more: a live entry stays so, or the event finishes it, or gives it back in a boot that is off.
abbrev LiveStep : Event → List Event → ℕ → Type 0
LiveStep event past entry =
    (is_live (live (event ∷ past)) entry ≡ true) ⊎ ((finishes entry event ≡ true) ⊎ ((off past ≡ true) × (gives_back entry event ≡ true)))

live-step : (c : Campaign) (past : List Event) (event : Event) (entry : ℕ) → Allowed c past event → is_boot event ≡ false → is_live (live past) entry ≡ true → LiveStep event past entry
live-step c past (Event.Boot number time limit found boards) entry a b l = cc
live-step c past (Event.Claim client request fetched (ClaimAnswer.Entry taken)) entry a b l = inl (live-push (live past) _ entry l)
live-step c past (Event.Resume client taken fetched ResumeAnswer.Begun stored) entry a b l = inl (live-push (live past) _ entry l)
live-step c past (Event.Finish client done state stored) entry a b l =
    by_test (entry == done) _ (λ t. inr (inl (flip-eqb entry done t))) (λ f. inl (live-without done (live past) entry f l))
live-step c past (Event.GiveBack client (Back.Entry given)) entry a b l =
    by_test (entry == given) _ (λ t. inr (inr (a.3, flip-eqb entry given t))) (λ f. inl (live-without given (live past) entry f l))
live-step c past _ entry a b l = inl l

-- An entry that was taken is live.
taken-live : (event : Event) (past : List Event) (entry : ℕ) → takes entry event ≡ true → is_live (live (event ∷ past)) entry ≡ true
taken-live (Event.Claim client request fetched (ClaimAnswer.Entry taken)) past entry e = live-last (live past) _ entry e
taken-live (Event.Resume client taken fetched ResumeAnswer.Begun stored) past entry e = live-last (live past) _ entry e
taken-live _ past entry e = cc

-- ---- what a boot keeps

off-stays : (event : Event) (past : List Event) → is_boot event ≡ false → off past ≡ true → off (event ∷ past) ≡ true
off-stays event past b o = rw (b, o) (or-true (puts_off event))

given-here : (event : Event) (past : List Event) (entry : ℕ) → is_boot event ≡ false → gives_back entry event ≡ true → given_back entry (event ∷ past) ≡ true
given-here event past entry b g = rw (b, g) refl

given-stays : (event : Event) (past : List Event) (entry : ℕ) → is_boot event ≡ false → given_back entry past ≡ true → given_back entry (event ∷ past) ≡ true
given-stays event past entry b g = rw (b, g) (or-true (gives_back entry event))

-- ---- entries that were taken

ended-here : (event : Event) (later : List Event) (was is_off : Bool) (entry : ℕ) → (was ≡ true → is_off ≡ true) → (finishes entry event ≡ true) ⊎ ((was ≡ true) × (gives_back entry event ≡ true)) → IsEndedBy is_off entry (event ∷ later)
ended-here event later was is_off entry h (inl f) = inl (rw f refl)
ended-here event later was is_off entry h (inr g) = inr (h g.0, rw g.1 refl)

ended-before : (event : Event) (later : List Event) (was is_off : Bool) (entry : ℕ) → (was ≡ true → is_off ≡ true) → IsEndedBy was entry later → IsEndedBy is_off entry (event ∷ later)
ended-before event later was is_off entry h (inl f) = inl (rw f (or-true (finishes entry event)))
ended-before event later was is_off entry h (inr g) = inr (h g.0, rw g.1 (or-true (gives_back entry event)))

-- Since an event took it, an entry is live, or was ended.
taken-ends : (c : Campaign) (later : List Event) (event : Event) (before : List Event) (entry : ℕ) → IsLegal c (later ++ event ∷ before) → list_any is_boot later ≡ false → takes entry event ≡ true
    → (is_live (live (later ++ event ∷ before)) entry ≡ true) ⊎ IsEndedBy (off (later ++ event ∷ before)) entry later
taken-ends c [] event before entry l b t = inl (taken-live event before entry t)
taken-ends c (e ∷ later) event before entry l b t =
    let p = or_parts (is_boot e) (list_any is_boot later) b in
    let past = later ++ event ∷ before in
    let stays : off past ≡ true → off (e ∷ past) ≡ true = off-stays e past p.0 in
    elim (taken-ends c later event before entry l.0 p.1 t) [
      | inl alive ↦
          elim (live-step c past e entry l.2 p.0 alive) [
            | inl still ↦ inl still
            | inr ended ↦ inr (ended-here e later (off past) (off (e ∷ past)) entry stays ended)
          ]
      | inr ended ↦ inr (ended-before e later (off past) (off (e ∷ past)) entry stays ended)
    ]

-- ---- open steps

-- The entry of an open step is live, or was given back.
abbrev IsHeldStep : List Event → OpenStep → Type 0
IsHeldStep past s = (is_live (live past) s.entry ≡ true) ⊎ IsGivenBack past s.entry

step-stays : (c : Campaign) (past : List Event) (event : Event) (s : OpenStep) → Allowed c past event → is_boot event ≡ false → finishes s.entry event ≡ false → IsHeldStep past s → IsHeldStep (event ∷ past) s
step-stays c past event s a b f (inl alive) =
    elim (live-step c past event s.entry a b alive) [
      | inl still ↦ inl still
      | inr ended ↦
          elim ended [
            | inl done ↦ (let bad : true ≡ false = sym done ∙ f in cc)
            | inr back ↦ inr (record { is_off = off-stays event past b back.0; given = given-here event past s.entry b back.1 })
          ]
    ]
step-stays c past event s a b f (inr g) =
    inr (record { is_off = off-stays event past b g.is_off; given = given-stays event past s.entry b g.given })

all-stay : (c : Campaign) (past : List Event) (event : Event) → Allowed c past event → is_boot event ≡ false → ((entry : ℕ) → finishes entry event ≡ false) → AllByRecursion (IsHeldStep past) (open_steps past) → AllByRecursion (IsHeldStep (event ∷ past)) (open_steps past)
all-stay c past event a b f k =
    All-map (IsHeldStep past) (IsHeldStep (event ∷ past)) (open_steps past) k (λ s h. step-stays c past event s a b (f s.entry) h)

none-found : (entry : ℕ) (steps : List OpenStep) → find (λ (s : OpenStep). s.entry == entry) steps ≡ None → AllByRecursion (λ (s : OpenStep). (s.entry == entry) ≡ false) steps
none-found entry [] e = tt
none-found entry (s ∷ steps) e =
    by_test (s.entry == entry) _
    (λ t. let bad : Some s ≡ None = rw t at e in cc)
    (λ f. (f, none-found entry steps (rw f at e)))

steps-after : (c : Campaign) (past : List Event) (event : Event) → Allowed c past event → AllByRecursion (IsHeldStep past) (open_steps past) → AllByRecursion (IsHeldStep (event ∷ past)) (open_steps (event ∷ past))
steps-after c past (Event.Boot number time limit found boards) a k = tt
steps-after c past (Event.Start client started op) a k =
    let event = Event.Start client started op in
    All-push (IsHeldStep (event ∷ past)) (open_steps past) (record { client = client; entry = started; op = op }) (all-stay c past event a refl (λ entry. refl) k)
    (inl (live-found (live past) started a.0 a.1.live))
steps-after c past (Event.End client ended op outcome told seen) a k =
    let event = Event.End client ended op outcome told seen in
    All-filter (IsHeldStep past) (IsHeldStep (event ∷ past)) (λ (s : OpenStep). not (s.entry == ended)) (open_steps past) k (λ s h _. step-stays c past event s a refl refl h)
steps-after c past (Event.Finish client done state stored) a k =
    let event = Event.Finish client done state stored in
    All-both (IsHeldStep past) (λ (s : OpenStep). (s.entry == done) ≡ false) (IsHeldStep (event ∷ past)) (open_steps past) k (none-found done (open_steps past) a.2.open_none)
    (λ s h n. step-stays c past event s a refl (turned s.entry done n) h)
steps-after c past event a k = all-stay c past event a refl (λ entry. refl) k

steps-held : (c : Campaign) (past : List Event) → IsLegal c past → AllByRecursion (IsHeldStep past) (open_steps past)
steps-held c [] l = tt
steps-held c (event ∷ past) l = steps-after c past event l.2 (steps-held c past l.0)

-- ---- the end of a boot

not-live : (past : List Event) (entry : ℕ) (G : Type 0) → live past ≡ [] → is_live (live past) entry ≡ true → G
not-live past entry G n l = let bad : is_live [] entry ≡ true = subst (λ (xs : List LiveEntry). is_live xs entry ≡ true) n l in cc

no-blocks : (past : List Event) → IsIdle past → held past ≡ 0
no-blocks past i = ap (λ (hs : List Held). blocks_out hs (live past)) i.no_hold ∙ ap (λ (ls : List LiveEntry). blocks_out [] ls) i.no_live

ends-so : (c : Campaign) (past : List Event) (entry : ℕ) (t : Taking past entry) → IsLegal c past → live past ≡ [] → IsEndedBy (off past) entry t.later
ends-so c past entry t l n =
    let whole : List Event = t.later ++ t.event ∷ t.before in
    let so : (is_live (live past) entry ≡ true) ⊎ IsEndedBy (off past) entry t.later =
    subst (λ (p : List Event). (is_live (live p) entry ≡ true) ⊎ IsEndedBy (off p) entry t.later) (sym t.are)
    (taken-ends c t.later t.event t.before entry (subst (IsLegal c) t.are l) t.in_boot t.takes_it)
    in
    elim so [ inl alive ↦ not-live past entry _ n alive | inr ended ↦ ended ]

pub ends-idle : (c : Campaign) (past : List Event) → IsLegal c past → IsIdle past → EndsIdle past
ends-idle c past l i =
    record {
      no_hold = i.no_hold;
      no_live = i.no_live;
      no_blocks = no-blocks past i;
      steps = All-map (IsHeldStep past) (λ (s : OpenStep). IsGivenBack past s.entry) (open_steps past) (steps-held c past l)
          (λ s h. elim h [ inl alive ↦ not-live past s.entry _ i.no_live alive | inr back ↦ back ]);
      ended = λ entry t. ends-so c past entry t l i.no_live;
    }

-- In a boot that has just begun nothing was done.
fresh-taken : (boot : Event) (before : List Event) (entry : ℕ) (later : List Event) (event : Event) (rest : List Event) (G : Type 0) → is_boot boot ≡ true → boot ∷ before ≡ later ++ event ∷ rest → list_any is_boot later ≡ false → takes entry event ≡ true → G
fresh-taken boot before entry [] event rest G b e n t =
    let same : boot ≡ event = cc in
    boot-takes event (subst (λ (x : Event). is_boot x ≡ true) same b) t
  where
    boot-takes : (event : Event) → is_boot event ≡ true → takes entry event ≡ true → G
    boot-takes (Event.Boot number time limit found boards) b t = cc
    boot-takes (Event.Query client query) b t = cc
    boot-takes (Event.Ask client request pending answer) b t = cc
    boot-takes (Event.Claim client request fetched answer) b t = cc
    boot-takes (Event.Schedule client request answer) b t = cc
    boot-takes (Event.Resume client taken fetched answer stored) b t = cc
    boot-takes (Event.Start client started op) b t = cc
    boot-takes (Event.End client ended op outcome told seen) b t = cc
    boot-takes (Event.Finish client done state stored) b t = cc
    boot-takes (Event.Judge client judged version state stored) b t = cc
    boot-takes (Event.Unplug client device answer) b t = cc
    boot-takes (Event.Plug client device answer) b t = cc
    boot-takes (Event.GiveBack client what) b t = cc
    boot-takes Event.Cut b t = cc
fresh-taken boot before entry (e ∷ later) event rest G b are n t =
    let same : boot ≡ e = cc in
    let p = or_parts (is_boot e) (list_any is_boot later) n in
    let bad : true ≡ false = sym b ∙ ap is_boot same ∙ p.0 in cc

pub fresh-idle : (boot : Event) (before : List Event) → is_boot boot ≡ true → EndsIdle (boot ∷ before)
fresh-idle (Event.Boot number time limit found boards) before b =
    record {
      no_hold = refl;
      no_live = refl;
      no_blocks = refl;
      steps = tt;
      ended = λ entry t. fresh-taken (Event.Boot number time limit found boards) before entry t.later t.event t.before _ refl t.are t.in_boot t.takes_it;
    }
fresh-idle _ before b = cc

-- Before the first boot there was nothing.
pub none-idle : EndsIdle []
none-idle =
    record {
      no_hold = refl;
      no_live = refl;
      no_blocks = refl;
      steps = tt;
      ended = λ entry t. none-taken t.later t.event t.before _ t.are;
    }
  where
    none-taken : (later : List Event) (event : Event) (before : List Event) (G : Type 0) → [] ≡ later ++ event ∷ before → G
    none-taken [] event before G e = cc
    none-taken (x ∷ later) event before G e = cc

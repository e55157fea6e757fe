-- The daemon's own events come first, where no client did anything before they ended.
use Rattle.std.proofs.Common.{◌≡◌, ℕ, false, List, [], ◌∷◌, ◌++◌, sym, ◌∙◌, subst}
use Rattle.std.specs.List.{AllByRecursion}
use Rattle.update_log.proofs.Lists.{All-map, All-push, by_test}
use Rattle.update_log.specs.declared.event.Event.{Event}
use Rattle.update_log.specs.Pasts.{is_boot, is_of}
use Rattle.client_plays.specs.Moments.{DaemonFirst, Moment, NoClients, at, mine}
use Rattle.client_plays.proofs.MomentLaws.{mine-boot, mine-other, mine-own}

-- Who did nothing up to an event did nothing before it.
no-push : (moments : List Moment) (m : Moment) (G : Type 0) → moments ++ m ∷ [] ≡ [] → G
no-push [] m G e = cc
no-push (n ∷ moments) m G e = cc

nothing-before : (other : ℕ) (event : Event) (past : List Event) → is_boot event ≡ false → mine other (event ∷ past) ≡ [] → mine other past ≡ []
nothing-before other event past b e =
    by_test (is_of other event) _
    (λ t. no-push (mine other past) (at past event) _ (sym (mine-own other past event b t) ∙ e))
    (λ f. sym (mine-other other past event b f) ∙ e)

-- Who did nothing in a boot did nothing before any event of it.
abbrev IsBefore : List Event → Moment → Type 0
IsBefore past m = (other : ℕ) → mine other past ≡ [] → mine other m.before ≡ []

all-before : (client : ℕ) (past : List Event) → AllByRecursion (IsBefore past) (mine client past)
all-before client [] = tt
all-before client (event ∷ past) =
    by_test (is_boot event) _
    (λ t. subst (AllByRecursion (IsBefore (event ∷ past))) (sym (mine-boot client past event t)) tt)
    (λ b.
    let earlier : AllByRecursion (IsBefore (event ∷ past)) (mine client past) =
    All-map (IsBefore past) (IsBefore (event ∷ past)) (mine client past) (all-before client past) (λ m h other e. h other (nothing-before other event past b e)) in
    by_test (is_of client event) _
    (λ t.
    subst (AllByRecursion (IsBefore (event ∷ past))) (sym (mine-own client past event b t))
    (All-push (IsBefore (event ∷ past)) (mine client past) (at past event) earlier (λ other e. nothing-before other event past b e)))
    (λ f. subst (AllByRecursion (IsBefore (event ∷ past))) (sym (mine-other client past event b f)) earlier))

-- Where no client did anything yet.
pub daemon-first : (past : List Event) → NoClients past → DaemonFirst past
daemon-first past none = All-map (IsBefore past) (λ (m : Moment). NoClients m.before) (mine 0 past) (all-before 0 past) (λ m h client c. h client (none client c))

-- It stays so where the daemon does nothing more.
pub first-stays : (old new : List Event) → mine 0 new ≡ mine 0 old → DaemonFirst old → DaemonFirst new
first-stays old new e d = subst (AllByRecursion (λ (m : Moment). NoClients m.before)) (sym e) d

-- And where it did nothing.
pub first-nothing : (past : List Event) → mine 0 past ≡ [] → DaemonFirst past
first-nothing past e = first-stays [] past e tt

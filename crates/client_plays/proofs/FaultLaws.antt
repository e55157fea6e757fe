-- Faults of shelves: how counts add up, and which plays tell none.
use Rattle.std.proofs.Common.{◌≡◌, ◌⊎◌, ℕ, ◌≤◌, ◌<◌, ◌+◌, ◌-◌, ◌^◌, Bool, true, false, List, [], ◌∷◌, ◌++◌, refl, ap, ◌∙◌, inl, inr, ⊎_elim, arith}
use Rattle.std.proofs.lemmas.Bool.{cases_lt}
use Rattle.std.specs.Prelude.{Option, Some, IfNone, MatchBool, if◌then◌else◌, min, not}
use Rattle.std.specs.List.{AllByRecursion}
use Rattle.block_pool.specs.Views.{SealedBytes}
use Rattle.emulated_boards.specs.Boards.{BoardState}
use Rattle.plugin_trait.specs.Steps.{PluginSteps}
use Rattle.outer_traits.specs.Faults.{Rose}
use Rattle.update_log.proofs.Lists.{by_test}
use Rattle.update_log.specs.declared.event.Event.{Event}
use Rattle.update_log.specs.declared.refusal.FetchNote.{FetchNote}
use Rattle.update_log.specs.declared.request.Request.{Request}
use Rattle.daemon_core.specs.declared.fetched.Fetched.{Fetched}
use Rattle.daemon_core.specs.Fetches.{note_of}
use Rattle.install_engine.specs.Answers.{told}
use Rattle.client_scripts.specs.declared.item.Item.{Item}
use Rattle.client_plays.specs.declared.played.Played.{Played}
use Rattle.client_plays.specs.Endings.{EndsSo}
use Rattle.client_plays.specs.Faults.{Counted, FaultsTold, faults_in, faults_noted, is_noted_fault, tells_shelf_fault}
use Rattle.client_plays.specs.Moments.{Moment}
use Rattle.client_plays.specs.Plays.{Alone, GivesBack, InstallPlays, Leaves, Plays, SchedulePlays, StepsPlay, TaskPlays, ToJudge, UpdatePlays}
use Rattle.client_plays.specs.Scripts.{PlayedSo, PlaysAll, PlaysOne, PlaysUntil}
use Rattle.client_plays.specs.Tools.{Means}
use Rattle.update_log.specs.Known.{Basis}

-- ---- counts

pub count-both : (a b c x y z : ℕ) → Counted a b x y → Counted b c y z → y ≤ z → Counted a c x z
count-both a b c x y z p q l =
    elim p [
      | inl u ↦ elim q [ inl v ↦ inl (omega arith) | inr v ↦ inr v ]
      | inr u ↦ inr (omega arith)
    ]

-- No more is told than before.
pub count-less : (a b x y : ℕ) → b ≤ a → x ≤ y → Counted a b x y
count-less a b x y l k = inl (omega arith)

-- One more is told, and the count rose.
rose-cases : (x y most : ℕ) → min (x + 1) most ≤ y → (x + 1 ≤ y) ⊎ (most ≤ y)
rose-cases x y most r = ⊎_elim (λ (low : x < most). inl (omega arith)) (λ (high : most ≤ x). inr (omega arith)) (cases_lt x most)

pub count-rose : (a b x y : ℕ) → b ≤ a + 1 → Rose x y → Counted a b x y
count-rose a b x y l r = elim (rose-cases x y (2 ^ 64 - 1) r) [ inl u ↦ inl (omega arith) | inr u ↦ inr u ]

-- ---- moments

pub faults-append : (xs ys : List Moment) → faults_in (xs ++ ys) ≡ faults_in xs + faults_in ys
faults-append [] ys = omega arith
faults-append (m ∷ xs) ys =
    let rest : faults_in (xs ++ ys) ≡ faults_in xs + faults_in ys = faults-append xs ys in
    by_test (tells_shelf_fault m.event) _ (λ t. rw t (omega arith)) (λ f. rw f rest)

-- One event.
pub faults-one : (m : Moment) → faults_in (m ∷ []) ≡ (if tells_shelf_fault m.event then 1 else 0)
faults-one m = by_test (tells_shelf_fault m.event) _ (λ t. rw t refl) (λ f. rw f refl)

quiet-more : (m : Moment) (ms : List Moment) → tells_shelf_fault m.event ≡ false → faults_in ms ≡ 0 → faults_in (m ∷ ms) ≡ 0
quiet-more m ms e z = rw e z

pub quiet-one : (m : Moment) → tells_shelf_fault m.event ≡ false → faults_in (m ∷ []) ≡ 0
quiet-one m e = quiet-more m [] e refl

-- These moments behind others tell no more.
pub faults-same : (moments old new : List Moment) → new ≡ old ++ moments → faults_in moments ≡ 0 → faults_in new ≡ faults_in old
faults-same moments old new e z =
    let both : faults_in (old ++ moments) ≡ faults_in old + faults_in moments = faults-append old moments in
    let all : faults_in new ≡ faults_in (old ++ moments) = ap faults_in e in
    omega arith

-- What a client did tells that much more.
pub faults-behind : (moments old new : List Moment) → new ≡ old ++ moments → faults_in new ≡ faults_in old + faults_in moments
faults-behind moments old new e = ap faults_in e ∙ faults-append old moments

pub faults-event : (m : Moment) (fetched : Option FetchNote) (old new : List Moment) → new ≡ old ++ m ∷ [] → tells_shelf_fault m.event ≡ is_noted_fault fetched → faults_in new ≡ faults_in old + faults_noted fetched
faults-event m fetched old new e t =
    faults-behind (m ∷ []) old new e
    ∙ ap (λ (n : ℕ). faults_in old + n) (faults-one m ∙ ap (λ (b : Bool). if b then 1 else 0) t)

-- The faults that a fetch tells are no more than the shelf's count rose.
pub fetch-counted : (fetched : Fetched) (a b x y : ℕ) → b ≤ a + faults_noted (Some (note_of fetched)) → IfNone (told fetched) (Rose x y) → x ≤ y → Counted a b x y
fetch-counted (Fetched.ShelfFault blocks) a b x y l r c = count-rose a b x y l r
fetch-counted _ a b x y l r c = count-less a b x y (omega arith) c

-- ---- one stretch after another

-- As many are told as before, and the shelf was let alone.
pub told-same : (old new : List Moment) (x : ℕ) → faults_in new ≡ faults_in old → FaultsTold old new x x
told-same old new x e = count-less (faults_in old) (faults_in new) x x (omega arith) (omega arith)

-- Before the shelf was asked, nothing more was told.
pub told-behind : (old mid new : List Moment) (x y : ℕ) → faults_in mid ≡ faults_in old → FaultsTold mid new x y → x ≤ y → FaultsTold old new x y
told-behind old mid new x y e t l = count-both (faults_in old) (faults_in mid) (faults_in new) x x y (count-less (faults_in old) (faults_in mid) x x (omega arith) (omega arith)) t l

pub told-both : (old mid new : List Moment) (x y z : ℕ) → FaultsTold old mid x y → FaultsTold mid new y z → y ≤ z → FaultsTold old new x z
told-both old mid new x y z a b l = count-both (faults_in old) (faults_in mid) (faults_in new) x y z a b l

-- ---- plays that tell no fault

abbrev pub TellsNone : (List Moment → Type 0) → Type 0
TellsNone Play = (moments : List Moment) → Play moments → faults_in moments ≡ 0

pub quiet-alone : (Fact : Moment → Type 0) → ((m : Moment) → Fact m → tells_shelf_fault m.event ≡ false) → TellsNone (Alone Fact)
quiet-alone Fact f [] p = absurd p
quiet-alone Fact f (m ∷ []) p = quiet-one m (f m p)
quiet-alone Fact f (m ∷ n ∷ moments) p = absurd p

quiet-steps : (steps : PluginSteps) (client entry : ℕ) (payload : SealedBytes) (board : BoardState) → TellsNone (StepsPlay steps client entry payload board)
quiet-steps steps client entry payload board [] u = absurd u
quiet-steps steps client entry payload board (m ∷ []) u = quiet-one m (ap tells_shelf_fault u.2)
quiet-steps steps client entry payload board (m ∷ n ∷ moments) u =
    quiet-more m (n ∷ moments) (ap tells_shelf_fault u.1.started_is)
    (quiet-more n moments (ap tells_shelf_fault u.1.ended_is) (quiet-steps steps client entry payload u.0 moments u.2))

pub quiet-update : (basis : Basis) (plugins : ℕ → PluginSteps) (client entry : ℕ) (taken : List Event) → TellsNone (UpdatePlays basis plugins client entry taken)
quiet-update basis plugins client entry taken moments u =
    quiet-steps (plugins u.place) client entry u.payload u.board moments u.plays

quiet-back : (client : ℕ) → TellsNone (GivesBack client)
quiet-back client [] g = refl
quiet-back client (m ∷ []) g = quiet-one m (ap tells_shelf_fault g.1)
quiet-back client (m ∷ n ∷ moments) g = absurd g

none-of : (a b all : ℕ) → all ≡ a + b → all ≡ 0 → a ≡ 0
none-of a b all e z = omega arith

none-both : (a b all : ℕ) → all ≡ a + b → a ≡ 0 → b ≡ 0 → all ≡ 0
none-both a b all e x y = omega arith

-- Also where they were left.
pub quiet-leaves : (client : ℕ) (Play : List Moment → Type 0) → TellsNone Play → TellsNone (Leaves client Play)
quiet-leaves client Play q moments l =
    let front : faults_in l.front ≡ 0 = none-of (faults_in l.front) (faults_in l.rest) (faults_in (l.front ++ l.rest)) (faults-append l.front l.rest) (q (l.front ++ l.rest) l.play) in
    ap faults_in l.are
    ∙ none-both (faults_in l.front) (faults_in l.back) (faults_in (l.front ++ l.back)) (faults-append l.front l.back) front (quiet-back client l.back l.gave)

pub quiet-ends : (played : Played) (client : ℕ) (Play : List Moment → Type 0) (new : List Event) → TellsNone Play → TellsNone (EndsSo played client Play new)
quiet-ends Played.Done client Play new q moments e = q moments e
quiet-ends Played.Off client Play new q moments e = quiet-leaves client Play q moments e.0
quiet-ends Played.NoMemory client Play new q moments e = quiet-leaves client Play q moments e.left

-- ---- items

-- The item fetches: it is an install that isn't put off.
abbrev pub fetches : Item → Bool
fetches (Item.Install request) = not request.flags.offline
fetches _ = false

quiet-schedule : (basis : Basis) (means : Means) (client : ℕ) (request : Request) (offline : Bool) → not offline ≡ false → TellsNone (λ moments. MatchBool offline (Alone (SchedulePlays client request) moments) (InstallPlays basis means client request moments))
quiet-schedule basis means client request true e moments p = quiet-alone (SchedulePlays client request) (λ m s. ap tells_shelf_fault s.1) moments p
quiet-schedule basis means client request false e moments p = cc

pub quiet-item : (basis : Basis) (means : Means) (client : ℕ) (item : Item) → fetches item ≡ false → TellsNone (Plays basis means client item)
quiet-item basis means client (Item.Ask query) e moments p = quiet-alone _ (λ m s. ap tells_shelf_fault s) moments p
quiet-item basis means client (Item.Install request) e moments p = quiet-schedule basis means client request request.flags.offline e moments p
quiet-item basis means client (Item.Settle selector) e moments p =
    quiet-alone _ (λ m s. elim s [ inl judged ↦ ap tells_shelf_fault judged.event_is | inr asked ↦ ap tells_shelf_fault asked ]) moments p
quiet-item basis means client (Item.Unplug selector) e moments p = quiet-alone _ (λ m s. ap tells_shelf_fault s.1) moments p
quiet-item basis means client (Item.Plug selector) e moments p = quiet-alone _ (λ m s. ap tells_shelf_fault s.1) moments p

-- ---- lists of things

pub quiet-judge : (basis : Basis) (means : Means) (entry : ℕ) → TellsNone (TaskPlays basis means (ToJudge entry))
quiet-judge basis means entry moments p = quiet-alone _ (λ m s. ap tells_shelf_fault s.3) moments p

module _ {X : Type 0} (wanting : Bool) (client : ℕ) (Play : X → List Moment → Type 0) where
  quiet-some : (w : Bool) (x : X) → TellsNone (Play x) → TellsNone (PlaysOne w client Play x)
  quiet-some true x q moments p = elim p [ inl whole ↦ q moments whole | inr left ↦ quiet-leaves client (Play x) q moments left.left ]
  quiet-some false x q moments p = q moments p

  quiet-then : (first rest moments : List Moment) → moments ≡ first ++ rest → faults_in first ≡ 0 → faults_in rest ≡ 0 → faults_in moments ≡ 0
  quiet-then first rest moments e a b = ap faults_in e ∙ none-both (faults_in first) (faults_in rest) (faults_in (first ++ rest)) (faults-append first rest) a b

  pub quiet-all : (xs : List X) → AllByRecursion (λ x. TellsNone (Play x)) xs → TellsNone (PlaysAll wanting client Play xs)
  quiet-all [] q moments p = ap faults_in p
  quiet-all (x ∷ xs) q moments p = quiet-then p.first p.rest moments p.are (quiet-some wanting x q.0 p.first p.first_is) (quiet-all xs q.1 p.rest p.rest_is)

  quiet-until : (xs : List X) → AllByRecursion (λ x. TellsNone (Play x)) xs → TellsNone (PlaysUntil wanting client Play xs)
  quiet-until [] q moments p = ap faults_in p
  quiet-until (x ∷ xs) q moments p =
      elim p [
        | inl left ↦ quiet-leaves client (Play x) q.0 moments left
        | inr t ↦ quiet-then t.first t.rest moments t.are (quiet-some wanting x q.0 t.first t.first_is) (quiet-until xs q.1 t.rest t.rest_is)
      ]

  pub quiet-so : (is_off : Bool) (xs : List X) → AllByRecursion (λ x. TellsNone (Play x)) xs → TellsNone (PlayedSo is_off wanting client Play xs)
  quiet-so true xs q moments p = quiet-until xs q moments p
  quiet-so false xs q moments p = quiet-all xs q moments p

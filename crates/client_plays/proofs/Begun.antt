-- Which installs, and which rows, a client begins who plays a list of things.
use Rattle.std.proofs.Common.{◌≡◌, ◌⊎◌, ℕ, Bool, true, false, List, [], ◌∷◌, ◌++◌, append-nil, map, refl, ap, sym, ◌∙◌, subst, inl, inr}
use Rattle.std.proofs.lemmas.List.Elements.{filter_map-append}
use Rattle.std.specs.List.{cons_option, filter_map}
use Rattle.std.specs.Prelude.{Option, Some, None, MatchBool, filter, if◌then◌else◌}
use Rattle.block_pool.specs.Views.{SealedBytes}
use Rattle.emulated_boards.specs.Boards.{BoardState}
use Rattle.plugin_trait.specs.Steps.{PluginSteps}
use Rattle.history_keeper.specs.declared.row.Row.{Row}
use Rattle.update_log.specs.declared.answer.AskAnswer.{AskAnswer}
use Rattle.update_log.specs.declared.answer.ClaimAnswer.{ClaimAnswer}
use Rattle.update_log.specs.declared.answer.ResumeAnswer.{ResumeAnswer}
use Rattle.update_log.specs.declared.event.Event.{Event}
use Rattle.update_log.specs.declared.request.Request.{Request}
use Rattle.update_log.specs.Known.{Basis, rows, views}
use Rattle.update_log.specs.Shows.{IsPrefix}
use Rattle.release_catalogue.specs.declared.reference.ReleaseRef.{ReleaseRef}
use Rattle.offline_updates.specs.Waiting.{entries_where, is_pending}
use Rattle.client_scripts.specs.declared.item.Item.{Item}
use Rattle.client_plays.specs.Moments.{Moment, behind}
use Rattle.client_plays.specs.Plays.{AfterAsk, AfterClaim, AfterResume, Alone, ClaimPlays, GivesBack, InstallPlays, Leaves, PendingPlays, Plays, ResumePlays, SchedulePlays, Task, StepsPlay, TaskPlays, ToJudge, ToResume}
use Rattle.client_plays.specs.Scripts.{PlayedSo, PlaysAll, PlaysOne, PlaysUntil, is_judgeable, tasks}
use Rattle.client_plays.specs.Tools.{Means}
use Rattle.client_plays.proofs.Ways.{one-way}
use Rattle.client_plays.specs.Installs.{AreBegun, AreSomeOf, AtBoot, Now, begun_by, row_begun_by, rows_waiting, wanted_by}

-- ---- lists of at most one, and what is behind them

cons-append : {Y : Type 0} (o : Option Y) (ys : List Y) → cons_option o [] ++ ys ≡ cons_option o ys
cons-append None ys = refl
cons-append (Some y) ys = refl

append-none : {Y : Type 0} (a b : List Y) → a ++ b ≡ [] → a ≡ []
append-none [] b e = refl
append-none (y ∷ a) b e = cc

front-one : {Y : Type 0} (a b : List Y) (o : Option Y) → a ++ b ≡ cons_option o [] → (a ≡ []) ⊎ (a ≡ cons_option o [])
front-one [] b o e = inl refl
front-one (y ∷ a) b None e = cc
front-one (y ∷ a) b (Some z) e =
    let head : y ≡ z = cc in
    let rest : a ++ b ≡ [] = cc in
    inr (ap (λ (t : List _). y ∷ t) (append-none a b rest) ∙ ap (λ (x : _). x ∷ []) head)

prefix-behind : {Y : Type 0} (o : Option Y) (a b : List Y) → IsPrefix a b → IsPrefix (cons_option o a) (cons_option o b)
prefix-behind None a b p = p
prefix-behind (Some y) a b p = (refl, p)

some-nothing : {Y : Type 0} (b : List Y) → AreSomeOf [] b
some-nothing [] = refl
some-nothing (y ∷ b) = inl (some-nothing b)

some-skip : {Y : Type 0} (o : Option Y) (a b : List Y) → AreSomeOf a b → AreSomeOf a (cons_option o b)
some-skip None a b p = p
some-skip (Some y) a b p = inl p

some-behind : {Y : Type 0} (o : Option Y) (a b : List Y) → AreSomeOf a b → AreSomeOf (cons_option o a) (cons_option o b)
some-behind None a b p = p
some-behind (Some y) a b p = inr (a, refl, p)

some-one : {Y : Type 0} (o : Option Y) (b : List Y) → AreSomeOf (cons_option o []) (cons_option o b)
some-one o b = some-behind o [] b (some-nothing b)

-- ---- a list of things

-- What these events begin.
abbrev pub begun : {Y : Type 0} → (Event → Option Y) → List Moment → List Y
begun begins moments = filter_map (λ m. begins m.event) moments

module _ {X Y : Type 0} (client : ℕ) (Play : X → List Moment → Type 0) (begins : Event → Option Y) (wants : X → Option Y)
    (whole : (x : X) (moments : List Moment) → Play x moments → begun begins moments ≡ cons_option (wants x) [])
    (quiet : (moments : List Moment) → GivesBack client moments → begun begins moments ≡ []) where
  begun-both : (a b : List Moment) → begun begins (a ++ b) ≡ begun begins a ++ begun begins b
  begun-both a b = filter_map-append (λ (m : Moment). begins m.event) a b

  -- What was left begins what it is to, or nothing.
  begun-left : (x : X) (moments : List Moment) → Leaves client (Play x) moments → (begun begins moments ≡ []) ⊎ (begun begins moments ≡ cons_option (wants x) [])
  begun-left x moments l =
      let parts : begun begins l.front ++ begun begins l.rest ≡ cons_option (wants x) [] = sym (begun-both l.front l.rest) ∙ whole x (l.front ++ l.rest) l.play in
      let same : begun begins moments ≡ begun begins l.front =
      ap (λ (ms : List Moment). begun begins ms) l.are ∙ begun-both l.front l.back ∙ ap (λ (ys : List Y). begun begins l.front ++ ys) (quiet l.back l.gave) ∙ append-nil (begun begins l.front) in
      elim (front-one (begun begins l.front) (begun begins l.rest) (wants x) parts) [ inl e ↦ inl (same ∙ e) | inr e ↦ inr (same ∙ e) ]

  -- One thing, and what is behind it.
  then-whole : (x : X) (first rest moments : List Moment) → moments ≡ first ++ rest → begun begins first ≡ cons_option (wants x) [] → begun begins moments ≡ cons_option (wants x) (begun begins rest)
  then-whole x first rest moments are f =
      ap (λ (ms : List Moment). begun begins ms) are ∙ begun-both first rest ∙ ap (λ (ys : List Y). ys ++ begun begins rest) f ∙ cons-append (wants x) (begun begins rest)

  then-none : (first rest moments : List Moment) → moments ≡ first ++ rest → begun begins first ≡ [] → begun begins moments ≡ begun begins rest
  then-none first rest moments are f =
      ap (λ (ms : List Moment). begun begins ms) are ∙ begun-both first rest ∙ ap (λ (ys : List Y). ys ++ begun begins rest) f

  -- All, where memory was there.
  all-begun : (xs : List X) (moments : List Moment) → PlaysAll false client Play xs moments → begun begins moments ≡ filter_map wants xs
  all-begun [] moments p = ap (λ (ms : List Moment). begun begins ms) p
  all-begun (x ∷ xs) moments p =
      then-whole x p.first p.rest moments p.are (whole x p.first p.first_is) ∙ ap (λ (ys : List Y). cons_option (wants x) ys) (all-begun xs p.rest p.rest_is)

  until-begun : (xs : List X) (moments : List Moment) → PlaysUntil false client Play xs moments → IsPrefix (begun begins moments) (filter_map wants xs)
  until-begun [] moments p = subst (λ (ys : List Y). IsPrefix ys []) (sym (ap (λ (ms : List Moment). begun begins ms) p)) tt
  until-begun (x ∷ xs) moments p =
      elim p [
        | inl left ↦
            elim (begun-left x moments left) [
              | inl e ↦ subst (λ (ys : List Y). IsPrefix ys (cons_option (wants x) (filter_map wants xs))) (sym e) tt
              | inr e ↦ subst (λ (ys : List Y). IsPrefix ys (cons_option (wants x) (filter_map wants xs))) (sym e) (prefix-behind (wants x) [] (filter_map wants xs) tt)
            ]
        | inr t ↦
            subst (λ (ys : List Y). IsPrefix ys (cons_option (wants x) (filter_map wants xs))) (sym (then-whole x t.first t.rest moments t.are (whole x t.first t.first_is)))
            (prefix-behind (wants x) (begun begins t.rest) (filter_map wants xs) (until-begun xs t.rest t.rest_is))
      ]

  -- Some, where it was wanting.
  one-some : (x : X) (xs : List X) (first rest moments : List Moment) → moments ≡ first ++ rest → PlaysOne true client Play x first → AreSomeOf (begun begins rest) (filter_map wants xs) → AreSomeOf (begun begins moments) (cons_option (wants x) (filter_map wants xs))
  one-some x xs first rest moments are p some =
      let on : begun begins first ≡ cons_option (wants x) [] → AreSomeOf (begun begins moments) (cons_option (wants x) (filter_map wants xs)) =
      λ e. subst (λ (ys : List Y). AreSomeOf ys (cons_option (wants x) (filter_map wants xs))) (sym (then-whole x first rest moments are e)) (some-behind (wants x) (begun begins rest) (filter_map wants xs) some) in
      let skip : begun begins first ≡ [] → AreSomeOf (begun begins moments) (cons_option (wants x) (filter_map wants xs)) =
      λ e. subst (λ (ys : List Y). AreSomeOf ys (cons_option (wants x) (filter_map wants xs))) (sym (then-none first rest moments are e)) (some-skip (wants x) (begun begins rest) (filter_map wants xs) some) in
      elim (one-way true client Play x first p) [
        | inl w ↦ on (whole x first w)
        | inr l ↦ elim (begun-left x first l.left) [ inl e ↦ skip e | inr e ↦ on e ]
      ]

  all-some : (xs : List X) (moments : List Moment) → PlaysAll true client Play xs moments → AreSomeOf (begun begins moments) (filter_map wants xs)
  all-some [] moments p = ap (λ (ms : List Moment). begun begins ms) p
  all-some (x ∷ xs) moments p = one-some x xs p.first p.rest moments p.are p.first_is (all-some xs p.rest p.rest_is)

  until-some : (xs : List X) (moments : List Moment) → PlaysUntil true client Play xs moments → AreSomeOf (begun begins moments) (filter_map wants xs)
  until-some [] moments p = ap (λ (ms : List Moment). begun begins ms) p
  until-some (x ∷ xs) moments p =
      elim p [
        | inl left ↦
            elim (begun-left x moments left) [
              | inl e ↦ subst (λ (ys : List Y). AreSomeOf ys (cons_option (wants x) (filter_map wants xs))) (sym e) (some-nothing (cons_option (wants x) (filter_map wants xs)))
              | inr e ↦ subst (λ (ys : List Y). AreSomeOf ys (cons_option (wants x) (filter_map wants xs))) (sym e) (some-one (wants x) (filter_map wants xs))
            ]
        | inr t ↦ one-some x xs t.first t.rest moments t.are t.first_is (until-some xs t.rest t.rest_is)
      ]

  pub so-begun : (is_off wanting : Bool) (xs : List X) (moments : List Moment) → PlayedSo is_off wanting client Play xs moments → AreBegun is_off wanting (begun begins moments) (filter_map wants xs)
  so-begun false false xs moments p = all-begun xs moments p
  so-begun true false xs moments p = until-begun xs moments p
  so-begun false true xs moments p = all-some xs moments p
  so-begun true true xs moments p = until-some xs moments p

-- ---- events that begin none

module _ {Y : Type 0} (begins : Event → Option Y) where
  quiet-more : (m : Moment) (moments : List Moment) → begins m.event ≡ None → begun begins moments ≡ [] → begun begins (m ∷ moments) ≡ []
  quiet-more m moments e r = ap (λ (o : Option Y). cons_option o (begun begins moments)) e ∙ r

  begun-alone : (Fact : Moment → Type 0) (want : Option Y) → ((m : Moment) → Fact m → begins m.event ≡ want) → (moments : List Moment) → Alone Fact moments → begun begins moments ≡ cons_option want []
  begun-alone Fact want f [] p = absurd p
  begun-alone Fact want f (m ∷ []) p = ap (λ (o : Option Y). cons_option o []) (f m p)
  begun-alone Fact want f (m ∷ n ∷ moments) p = absurd p

  begun-head : (want : Y) (m : Moment) (moments : List Moment) → begins m.event ≡ Some want → begun begins moments ≡ [] → begun begins (m ∷ moments) ≡ want ∷ []
  begun-head want m moments e r = ap (λ (o : Option Y). cons_option o (begun begins moments)) e ∙ ap (λ (ys : List Y). want ∷ ys) r

  quiet-none : (moments : List Moment) → moments ≡ [] → begun begins moments ≡ []
  quiet-none moments e = ap (λ (ms : List Moment). begun begins ms) e

quiet-update : (steps : PluginSteps) (client entry : ℕ) (payload : SealedBytes) (board : BoardState) (moments : List Moment) → StepsPlay steps client entry payload board moments → begun begun_by moments ≡ []
quiet-update steps client entry payload board [] p = absurd p
quiet-update steps client entry payload board (m ∷ []) p = quiet-more begun_by m [] (ap begun_by p.2) refl
quiet-update steps client entry payload board (m ∷ n ∷ moments) p =
    quiet-more begun_by m (n ∷ moments) (ap begun_by p.1.started_is)
    (quiet-more begun_by n moments (ap begun_by p.1.ended_is) (quiet-update steps client entry payload p.0 moments p.2))

quiet-update_rows : (steps : PluginSteps) (client entry : ℕ) (payload : SealedBytes) (board : BoardState) (moments : List Moment) → StepsPlay steps client entry payload board moments → begun row_begun_by moments ≡ []
quiet-update_rows steps client entry payload board [] p = absurd p
quiet-update_rows steps client entry payload board (m ∷ []) p = quiet-more row_begun_by m [] (ap row_begun_by p.2) refl
quiet-update_rows steps client entry payload board (m ∷ n ∷ moments) p =
    quiet-more row_begun_by m (n ∷ moments) (ap row_begun_by p.1.started_is)
    (quiet-more row_begun_by n moments (ap row_begun_by p.1.ended_is) (quiet-update_rows steps client entry payload p.0 moments p.2))

quiet-back : (client : ℕ) (moments : List Moment) → GivesBack client moments → begun begun_by moments ≡ []
quiet-back client [] g = refl
quiet-back client (m ∷ []) g = quiet-more begun_by m [] (ap begun_by g.1) refl
quiet-back client (m ∷ n ∷ moments) g = absurd g

quiet-back_rows : (client : ℕ) (moments : List Moment) → GivesBack client moments → begun row_begun_by moments ≡ []
quiet-back_rows client [] g = refl
quiet-back_rows client (m ∷ []) g = quiet-more row_begun_by m [] (ap row_begun_by g.1) refl
quiet-back_rows client (m ∷ n ∷ moments) g = absurd g

-- ---- items

module _ (basis : Basis) (means : Means) (client : ℕ) where
  quiet-after_claim : (past : List Event) (answer : ClaimAnswer) (moments : List Moment) → AfterClaim basis means.plugins client past answer moments → begun begun_by moments ≡ []
  quiet-after_claim past (ClaimAnswer.Entry entry) moments p = quiet-update (means.plugins p.place) client entry p.payload p.board moments p.plays
  quiet-after_claim past (ClaimAnswer.Kept entry state) moments p = quiet-none begun_by moments p
  quiet-after_claim past (ClaimAnswer.Refused refusal) moments p = quiet-none begun_by moments p

  quiet-claim : (request : Request) (release : ReleaseRef) (moments : List Moment) → ClaimPlays basis means client request release moments → begun begun_by moments ≡ []
  quiet-claim request release [] p = absurd p
  quiet-claim request release (m ∷ moments) p = quiet-more begun_by m moments (ap begun_by p.2) (quiet-after_claim (behind m) p.1 moments p.4)

  quiet-after_ask : (request : Request) (answer : AskAnswer) (moments : List Moment) → AfterAsk basis means client request answer moments → begun begun_by moments ≡ []
  quiet-after_ask request (AskAnswer.Hold blocks release) moments p = quiet-claim request release moments p
  quiet-after_ask request (AskAnswer.Kept entry state) moments p = quiet-none begun_by moments p
  quiet-after_ask request (AskAnswer.Refused refusal) moments p = quiet-none begun_by moments p

  install-begun : (request : Request) (moments : List Moment) → InstallPlays basis means client request moments → begun begun_by moments ≡ Now request ∷ []
  install-begun request [] p = absurd p
  install-begun request (m ∷ moments) p = begun-head begun_by (Now request) m moments (ap begun_by p.1) (quiet-after_ask request p.0 moments p.2)

  install-so : (request : Request) (offline : Bool) (moments : List Moment) → MatchBool offline (Alone (SchedulePlays client request) moments) (InstallPlays basis means client request moments)
      → begun begun_by moments ≡ (if offline then AtBoot request else Now request) ∷ []
  install-so request true moments p = begun-alone begun_by (SchedulePlays client request) (Some (AtBoot request)) (λ m s. ap begun_by s.1) moments p
  install-so request false moments p = install-begun request moments p

  item-begun : (item : Item) (moments : List Moment) → Plays basis means client item moments → begun begun_by moments ≡ cons_option (wanted_by item) []
  item-begun (Item.Ask query) moments p = begun-alone begun_by _ None (λ m s. ap begun_by s) moments p
  item-begun (Item.Install request) moments p = install-so request request.flags.offline moments p
  item-begun (Item.Settle selector) moments p =
      begun-alone begun_by _ None (λ m s. elim s [ inl judged ↦ ap begun_by judged.event_is | inr asked ↦ ap begun_by asked ]) moments p
  item-begun (Item.Unplug selector) moments p = begun-alone begun_by _ None (λ m s. ap begun_by s.1) moments p
  item-begun (Item.Plug selector) moments p = begun-alone begun_by _ None (λ m s. ap begun_by s.1) moments p

  pub items-begun : (is_off wanting : Bool) (items : List Item) (moments : List Moment) → PlayedSo is_off wanting client (Plays basis means client) items moments → AreBegun is_off wanting (begun begun_by moments) (filter_map wanted_by items)
  items-begun is_off wanting items moments p =
      so-begun client (Plays basis means client) begun_by wanted_by item-begun (quiet-back client) is_off wanting items moments p

-- ---- tasks of the daemon

-- The row that a task begins.
abbrev pub row_of_task : Task → Option ℕ
row_of_task (ToJudge entry) = None
row_of_task (ToResume entry) = Some entry

module _ (basis : Basis) (means : Means) where
  quiet-after_resume : (entry : ℕ) (past : List Event) (answer : ResumeAnswer) (moments : List Moment) → AfterResume basis means.plugins entry past answer moments → begun row_begun_by moments ≡ []
  quiet-after_resume entry past ResumeAnswer.Begun moments p = quiet-update_rows (means.plugins p.place) 0 entry p.payload p.board moments p.plays
  quiet-after_resume entry past (ResumeAnswer.Refused refusal) moments p = quiet-none row_begun_by moments p

  quiet-resume : (entry : ℕ) (asked : AskAnswer) (moments : List Moment) → ResumePlays basis means entry asked moments → begun row_begun_by moments ≡ []
  quiet-resume entry asked [] p = absurd p
  quiet-resume entry asked (m ∷ moments) p = quiet-more row_begun_by m moments (ap row_begun_by p.3) (quiet-after_resume entry (behind m) p.1 moments p.5)

  pending-begun : (entry : ℕ) (moments : List Moment) → PendingPlays basis means entry moments → begun row_begun_by moments ≡ entry ∷ []
  pending-begun entry [] p = absurd p
  pending-begun entry (m ∷ moments) p = begun-head row_begun_by entry m moments (ap row_begun_by p.2) (quiet-resume entry p.1 moments p.3)

  task-begun : (task : Task) (moments : List Moment) → TaskPlays basis means task moments → begun row_begun_by moments ≡ cons_option (row_of_task task) []
  task-begun (ToJudge entry) moments p = begun-alone row_begun_by _ None (λ m s. ap row_begun_by s.3) moments p
  task-begun (ToResume entry) moments p = pending-begun entry moments p

  judged-none : (all : List Row) → filter_map row_of_task (map (λ row. ToJudge row.entry) all) ≡ []
  judged-none [] = refl
  judged-none (row ∷ all) = judged-none all

  resumed-all : (entries : List ℕ) → filter_map row_of_task (map ToResume entries) ≡ entries
  resumed-all [] = refl
  resumed-all (entry ∷ entries) = ap (λ (es : List ℕ). entry ∷ es) (resumed-all entries)

  tasks-wanted : (past : List Event) → filter_map row_of_task (tasks basis past) ≡ rows_waiting basis past
  tasks-wanted [] = refl
  tasks-wanted (boot ∷ past) =
      let all : List Row = rows basis (boot ∷ past) in
      let judged : List Row = filter (is_judgeable (boot ∷ past) (views basis (boot ∷ past))) all in
      let waiting : List ℕ = entries_where is_pending all in
      filter_map-append row_of_task (map (λ row. ToJudge row.entry) judged) (map ToResume waiting)
      ∙ ap (λ (es : List ℕ). es ++ filter_map row_of_task (map ToResume waiting)) (judged-none judged)
      ∙ resumed-all waiting

  pub tasks-begun : (is_off wanting : Bool) (past : List Event) (moments : List Moment) → PlayedSo is_off wanting 0 (TaskPlays basis means) (tasks basis past) moments
      → AreBegun is_off wanting (begun row_begun_by moments) (rows_waiting basis past)
  tasks-begun is_off wanting past moments p =
      subst (λ (wanted : List ℕ). AreBegun is_off wanting (begun row_begun_by moments) wanted) (tasks-wanted past)
      (so-begun 0 (TaskPlays basis means) row_begun_by row_of_task task-begun (quiet-back_rows 0) is_off wanting (tasks basis past) moments p)

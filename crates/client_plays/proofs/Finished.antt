-- Each install of a script is asked for, and goes on.
use Rattle.std.proofs.Common.{◌≡◌, ◌⊎◌, ℕ, ◌<◌, Bool, true, false, zero, suc, List, [], ◌∷◌, ◌++◌, refl, ap, sym, ◌∙◌, subst, inl, inr}
use Rattle.std.proofs.lemmas.Bool.{eqb-true}
use Rattle.std.proofs.lemmas.Option.{same_Some}
use Rattle.std.specs.List.{cons_option, filter_map, list_any}
use Rattle.std.specs.Prelude.{Option, Some, None, slice_get, if◌then◌else◌}
use Rattle.update_log.proofs.Lists.{by_test}
use Rattle.update_log.specs.declared.answer.AskAnswer.{AskAnswer}
use Rattle.update_log.specs.declared.answer.ClaimAnswer.{ClaimAnswer}
use Rattle.update_log.specs.declared.event.Event.{Event}
use Rattle.update_log.specs.declared.refusal.FetchNote.{FetchNote}
use Rattle.update_log.specs.declared.request.Request.{Request}
use Rattle.update_log.specs.Legal.{IsLegal, next_entry}
use Rattle.update_log.specs.Pasts.{finishes, is_boot, is_of, off}
use Rattle.update_log.specs.Shows.{Campaign}
use Rattle.client_scripts.specs.declared.item.Item.{Item}
use Rattle.client_plays.specs.Moments.{Moment, at, mine}
use Rattle.client_plays.specs.Scripts.{BootPlayed, items_of}
use Rattle.client_plays.specs.Tools.{Files, Means}
use Rattle.client_plays.proofs.MomentLaws.{mine-boot, mine-other, mine-own}
use Rattle.client_plays.specs.Finished.{InstallFinishes, IsFinished}
use Rattle.client_plays.specs.Installs.{AreBegun, AtBoot, BootCompletes, InBoot, InstallComes, Installs, Now, Wish, begun_by, installs_begun, installs_wanted, wanted_by}
use Rattle.client_plays.proofs.Boots.{boot-completes}

-- ---- what is among others

abbrev Among : {X : Type 0} → X → List X → Type 0
Among x [] = ⊥
Among x (y ∷ ys) = (y ≡ x) ⊎ Among x ys

among-same : {X : Type 0} (x : X) (xs ys : List X) → xs ≡ ys → Among x xs → Among x ys
among-same x xs ys e a = subst (λ (zs : List _). Among x zs) e a

among-behind : {X : Type 0} (o : Option X) (x : X) (xs : List X) → Among x xs → Among x (cons_option o xs)
among-behind None x xs a = a
among-behind (Some y) x xs a = inr a

among-head : {X : Type 0} (o : Option X) (x : X) (xs : List X) → o ≡ Some x → Among x (cons_option o xs)
among-head None x xs e = cc
among-head (Some y) x xs e = inl (same_Some y x e)

-- What a place of a list gives.
among-place : {X Y : Type 0} (f : X → Option Y) (xs : List X) (n : ℕ) (x : X) (y : Y) → slice_get xs n ≡ Some x → f x ≡ Some y → Among y (filter_map f xs)
among-place f [] n x y e g = cc
among-place f (z ∷ xs) zero x y e g = among-head (f z) y (filter_map f xs) (ap f (same_Some z x e) ∙ g)
among-place f (z ∷ xs) (suc n) x y e g = among-behind (f z) y (filter_map f xs) (among-place f xs n x y e g)

-- And where it is given.
pub record GivenBy {X Y : Type 0} (f : X → Option Y) (xs : List X) (y : Y) : Type 0 where
  pub x : X
  pub among : Among x xs
  pub gives : f x ≡ Some y

given-later : {X Y : Type 0} (f : X → Option Y) (z : X) (xs : List X) (y : Y) → GivenBy f xs y → GivenBy f (z ∷ xs) y
given-later f z xs y g = record { x = g.x; among = inr g.among; gives = g.gives }

given-here : {X Y : Type 0} (f : X → Option Y) (z : X) (xs : List X) (y : Y) (o : Option Y) → f z ≡ o → Among y (cons_option o (filter_map f xs)) → (Among y (filter_map f xs) → GivenBy f xs y) → GivenBy f (z ∷ xs) y
given-here f z xs y None e a rest = given-later f z xs y (rest a)
given-here f z xs y (Some w) e a rest =
    elim a [
      | inl same ↦ record { x = z; among = inl refl; gives = e ∙ ap Some same }
      | inr more ↦ given-later f z xs y (rest more)
    ]

given-by : {X Y : Type 0} (f : X → Option Y) (xs : List X) (y : Y) → Among y (filter_map f xs) → GivenBy f xs y
given-by f [] y a = absurd a
given-by f (z ∷ xs) y a = given-here f z xs y (f z) refl a (λ b. given-by f xs y b)

-- ---- a client's own events stand in the boot

-- It does, and is the client's.
pub record StandsOwn (client : ℕ) (past : List Event) (event : Event) : Type 0 where
  pub stands : InBoot past event
  pub own : is_of client event ≡ true

among-push : (m n : Moment) (moments : List Moment) → Among m (moments ++ n ∷ []) → Among m moments ⊎ (n ≡ m)
among-push m n [] a = elim a [ inl e ↦ inr e | inr none ↦ absurd none ]
among-push m n (x ∷ moments) a =
    elim a [
      | inl e ↦ inl (inl e)
      | inr rest ↦ elim (among-push m n moments rest) [ inl b ↦ inl (inr b) | inr e ↦ inr e ]
    ]

stands-later : (client : ℕ) (past : List Event) (event e : Event) → is_boot e ≡ false → StandsOwn client past event → StandsOwn client (e ∷ past) event
stands-later client past event e b s =
    record {
      stands = record {
        later = e ∷ s.stands.later;
        before = s.stands.before;
        are = ap (λ (es : List Event). e ∷ es) s.stands.are;
        in_boot = rw b s.stands.in_boot;
      };
      own = s.own;
    }

stands-own : (client : ℕ) (past : List Event) (m : Moment) → Among m (mine client past) → StandsOwn client past m.event
stands-own client [] m a = absurd a
stands-own client (e ∷ past) m a =
    by_test (is_boot e) _
    (λ t. absurd (among-same m (mine client (e ∷ past)) [] (mine-boot client past e t) a))
    (λ b. by_test (is_of client e) _
    (λ t. elim (among-push m (at past e) (mine client past) (among-same m (mine client (e ∷ past)) (mine client past ++ at past e ∷ []) (mine-own client past e b t) a)) [
      | inl before ↦ stands-later client past m.event e b (stands-own client past m before)
      | inr same ↦
          subst (λ (n : Moment). StandsOwn client (e ∷ past) n.event) same
          (record { stands = record { later = []; before = past; are = refl; in_boot = refl }; own = t })
    ])
    (λ f. stands-later client past m.event e b (stands-own client past m (among-same m (mine client (e ∷ past)) (mine client past) (mine-other client past e b f) a))))

-- ---- the ask of an install

-- An event that begins an install to be done now is its ask.
pub record IsAsk (request : Request) (event : Event) : Type 0 where
  pub client : ℕ
  pub answer : AskAnswer
  pub event_is : event ≡ Event.Ask client request None answer

asks-now : (event : Event) (request : Request) → begun_by event ≡ Some (Now request) → IsAsk request event
asks-now (Event.Ask client asked None answer) request e =
    let same : asked ≡ request = cc in
    record { client = client; answer = answer; event_is = ap (λ (x : Request). Event.Ask client x None answer) same }
asks-now _ request e = cc

-- Where the boot stayed on and memory was there.
all-begun : (is_off : Bool) (begun wanted : List Wish) → is_off ≡ false → AreBegun is_off false begun wanted → begun ≡ wanted
all-begun true begun wanted e a = cc
all-begun false begun wanted e a = a

ended-whole : (is_off : Bool) (next : ℕ) (newer : List Event) (note : FetchNote) (answer : ClaimAnswer) → is_off ≡ false → Installs is_off next newer note answer
    → ((answer ≡ ClaimAnswer.Entry next) × (list_any (finishes next) newer ≡ true)) ⊎ (note ≡ FetchNote.ShelfFault)
ended-whole is_off next newer note answer e (inl t) =
    elim t.1 [
      | inl done ↦ inl (t.0, done)
      | inr back ↦ (let bad : true ≡ false = sym back.0 ∙ e in cc)
    ]
ended-whole is_off next newer note answer e (inr (inl t)) = let bad : true ≡ false = sym t.1 ∙ e in cc
ended-whole is_off next newer note answer e (inr (inr t)) = inr t

module _ (c : Campaign) (files : ℕ → Files) (past : List Event) (client : ℕ) (request : Request) (on : off past ≡ false) where
  finished : (answer : AskAnswer) (stands : InBoot past (Event.Ask client request None answer)) → InstallComes false c.basis (files client) past client request answer stands
      → IsFinished c.basis (files client) client request (Event.Ask client request None answer ∷ stands.before) stands.later
  finished answer stands i =
      elim i.comes [
        | inl k ↦
            record {
              release = i.release;
              note = k.note;
              answer = k.answer;
              next = k.next;
              finished = λ accept there. ended-whole (off past) (next_entry c.basis (k.next.between ++ Event.Ask client request None answer ∷ stands.before)) k.next.newer k.note k.answer on (k.installs accept there);
            }
        | inr g ↦
            elim g.cause [
              | inl o ↦ (let bad : true ≡ false = sym o ∙ on in cc)
              | inr w ↦ cc
            ]
      ]

  pub install-finishes : (of_boot : List (List Item)) (number : ℕ) → BootCompletes false c.basis files of_boot past → 0 < client → slice_get (items_of of_boot client) number ≡ Some (Item.Install request) → request.flags.offline ≡ false
      → InstallFinishes c.basis (files client) client request past
  install-finishes of_boot number b above there now =
      let wanted : Among (Now request) (installs_wanted (items_of of_boot client)) =
      among-place wanted_by (items_of of_boot client) number (Item.Install request) (Now request) there (ap (λ (offline : Bool). Some (if offline then AtBoot request else Now request)) now) in
      let same : installs_begun (mine client past) ≡ installs_wanted (items_of of_boot client) = all-begun (off past) (installs_begun (mine client past)) (installs_wanted (items_of of_boot client)) on (b.begun client above) in
      let g = given-by (λ (m : Moment). begun_by m.event) (mine client past) (Now request) (among-same (Now request) (installs_wanted (items_of of_boot client)) (installs_begun (mine client past)) (sym same) wanted) in
      let s : StandsOwn client past g.x.event = stands-own client past g.x g.among in
      let a = asks-now g.x.event request g.gives in
      let own : is_of client (Event.Ask a.client request None a.answer) ≡ true = subst (λ (e : Event). is_of client e ≡ true) a.event_is s.own in
      let is : g.x.event ≡ Event.Ask client request None a.answer = a.event_is ∙ ap (λ (n : ℕ). Event.Ask n request None a.answer) (eqb-true a.client client own) in
      let stands : InBoot past (Event.Ask client request None a.answer) = subst (λ (e : Event). InBoot past e) is s.stands in
      record {
        answer = a.answer;
        stands = stands;
        goes_on = λ accept. finished a.answer stands (b.installs client request a.answer stands above accept);
      }

pub installs-finish : (c : Campaign) (means : ℕ → Means) (of_boot : List (List Item)) (past : List Event) (client number : ℕ) (request : Request)
    → IsLegal c past → BootPlayed false c.basis means of_boot past → off past ≡ false → 0 < client
    → slice_get (items_of of_boot client) number ≡ Some (Item.Install request) → request.flags.offline ≡ false
    → InstallFinishes c.basis (means client).files client request past
installs-finish c means of_boot past client number request legal played on above there now =
    install-finishes c (λ n. (means n).files) past client request on of_boot number (boot-completes false c means of_boot past legal played) above there now

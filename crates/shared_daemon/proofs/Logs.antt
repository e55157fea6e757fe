-- Logs with their makers.
use Rattle.std.proofs.Common.{◌≡◌, ◌≢◌, ℕ, eqb, Bool, true, false, cond, List, [], ◌∷◌, ◌++◌, map, refl, ap, sym, ◌∙◌, subst, arith, append_assoc}
use Rattle.std.specs.List.{AllByRecursion}
use Rattle.std.proofs.lemmas.List.Elements.{filter-append}
use Rattle.update_log.specs.declared.event.Event.{Event}
use Rattle.update_log.specs.Pasts.{past_of}
use Rattle.daemon_core.specs.HouseLog.{Appended, IsHouseLog, MadeBy, Unchanged}
use Rattle.daemon_core.specs.Housed.{HouseLogView, past_in}
use Rattle.turn_lock.specs.Lists.{BeginsWith, beyond, made_by}
use Rattle.turn_lock.proofs.Counting.{beyond_append}
use Rattle.shared_daemon.specs.declared.entry.Entry.{Entry}
use Rattle.shared_daemon.specs.Entries.{AllMade, entries_in, entries_of, entry_of, events, maker_of, past_seen}

-- A log's events, and that each was made by its maker.
pub events-entries : (log : List Event) (makers : List ℕ) → MadeBy log makers → events (entries_of log makers) ≡ log
events-entries [] makers m = refl
events-entries (e ∷ log) [] m = absurd m
events-entries (e ∷ log) (k ∷ makers) m = ap (λ (l : List Event). e ∷ l) (events-entries log makers m.1)

pub all-made : (log : List Event) (makers : List ℕ) → MadeBy log makers → AllMade (entries_of log makers)
all-made [] makers m = tt
all-made (e ∷ log) [] m = absurd m
all-made (e ∷ log) (k ∷ makers) m = (m.0, all-made log makers m.1)

pub entries-push : (log : List Event) (makers : List ℕ) (event : Event) (maker : ℕ) → MadeBy log makers → entries_of (log ++ event ∷ []) (makers ++ maker ∷ []) ≡ entries_of log makers ++ entry_of maker event ∷ []
entries-push [] [] event maker m = refl
entries-push [] (k ∷ makers) event maker m = absurd m
entries-push (e ∷ log) [] event maker m = absurd m
entries-push (e ∷ log) (k ∷ makers) event maker m = ap (λ (l : List Entry). entry_of k e ∷ l) (entries-push log makers event maker m.1)

-- The same of a house log.
pub past-entries : (a : HouseLogView) → IsHouseLog a → past_seen (entries_in a) ≡ past_in a
past-entries a k = ap past_of (events-entries a.core.log a.makers k.makers)

pub entries-appended : (client : ℕ) (event : Event) (old new : HouseLogView) → IsHouseLog old → Appended client event old new → entries_in new ≡ entries_in old ++ entry_of client event ∷ []
entries-appended client event old new k a =
    ap (λ (l : List Event). entries_of l new.makers) a.log
    ∙ ap (λ (m : List ℕ). entries_of (old.core.log ++ event ∷ []) m) a.makers
    ∙ entries-push old.core.log old.makers event client k.makers

pub entries-same : (old new : HouseLogView) → Unchanged old new → entries_in new ≡ entries_in old
entries-same old new u =
    ap (λ (l : List Event). entries_of l new.makers) u.log ∙ ap (λ (m : List ℕ). entries_of old.core.log m) u.makers

-- Events of lists that are put together.
pub events-append : (xs ys : List Entry) → events (xs ++ ys) ≡ events xs ++ events ys
events-append [] ys = refl
events-append (x ∷ xs) ys = ap (λ (l : List Event). x.event ∷ l) (events-append xs ys)

pub made-back : (xs ys : List Entry) → AllMade (xs ++ ys) → AllMade ys
made-back [] ys m = m
made-back (x ∷ xs) ys m = made-back xs ys m.1

pub makers-made : (list : List Entry) → AllMade list → MadeBy (events list) (map maker_of list)
makers-made [] m = tt
makers-made (x ∷ list) m = (m.0, makers-made list m.1)

-- Where none of a list is a client's, no maker is that client.
step-none : (client : ℕ) (x : Entry) (rest : List Entry) (b : Bool) → cond b (x ∷ rest) rest ≡ [] → b ≡ false
step-none client x rest true e = absurd (cc)
step-none client x rest false e = refl

step-rest : (client : ℕ) (x : Entry) (rest : List Entry) (b : Bool) → cond b (x ∷ rest) rest ≡ [] → rest ≡ []
step-rest client x rest true e = absurd (cc)
step-rest client x rest false e = e

pub eqb-own : (n : ℕ) → eqb n n ≡ true
eqb-own n = grind arith

pub none-others : (client : ℕ) (list : List Entry) → made_by maker_of client list ≡ [] → AllByRecursion (λ maker. maker ≢ client) (map maker_of list)
none-others client [] e = tt
none-others client (x ∷ list) e = (
  (λ same. let off : eqb x.maker client ≡ false = step-none client x (made_by maker_of client list) (eqb x.maker client) e in
      let on : eqb x.maker client ≡ true = subst (λ (n : ℕ). eqb x.maker n ≡ true) same (eqb-own x.maker) in
      absurd (cc)),
  none-others client list (step-rest client x (made_by maker_of client list) (eqb x.maker client) e),
)

-- What is made by a client, of lists that are put together.
pub made_by-append : (client : ℕ) (xs ys : List Entry) → made_by maker_of client (xs ++ ys) ≡ made_by maker_of client xs ++ made_by maker_of client ys
made_by-append client xs ys = filter-append (λ (e : Entry). eqb e.maker client) xs ys

-- What a list has beyond its front.
pub begins-all : (list front : List Entry) → BeginsWith list front → list ≡ front ++ beyond front list
begins-all list front b =
    b.1 ∙ ap (λ (l : List Entry). front ++ l) (sym (beyond_append front b.0) ∙ ap (λ (l : List Entry). beyond front l) (sym b.1))

pub begins-trans : (list middle front : List Entry) → BeginsWith list middle → BeginsWith middle front → BeginsWith list front
begins-trans list middle front b c = (
  c.0 ++ b.0,
  b.1 ∙ ap (λ (l : List Entry). l ++ b.0) c.1 ∙ append_assoc front c.0 b.0,
)

pub beyond-longer : (list middle front : List Entry) → BeginsWith middle front → list ≡ middle ++ beyond middle list → beyond front list ≡ beyond front middle ++ beyond middle list
beyond-longer list middle front b e =
    let rest : List Entry = beyond middle list in
    let m : middle ≡ front ++ beyond front middle = begins-all middle front b in
    let whole : list ≡ front ++ (beyond front middle ++ rest) = e ∙ ap (λ (l : List Entry). l ++ rest) m ∙ append_assoc front (beyond front middle) rest in
    ap (λ (l : List Entry). beyond front l) whole ∙ beyond_append front (beyond front middle ++ rest)

tail-same : (x : Entry) (xs ys : List Entry) → x ∷ xs ≡ x ∷ ys → xs ≡ ys
tail-same x xs ys e = cc

-- If the rest adds nothing to a front, it is empty.
pub append-none : (xs ys : List Entry) → xs ++ ys ≡ xs → ys ≡ []
append-none [] ys e = e
append-none (x ∷ xs) ys e = append-none xs ys (tail-same x (xs ++ ys) xs e)

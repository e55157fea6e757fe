-- What a client did, over one event and over one stretch of events after another.
use Rattle.std.proofs.Common.{◌≡◌, ◌≢◌, ℕ, Bool, true, false, ◌||◌, List, [], ◌∷◌, ◌++◌, append_assoc, append-nil, refl, ap, sym, ◌∙◌, eq-eqb}
use Rattle.std.proofs.lemmas.Bool.{ne_eqb, or_parts, or_from}
use Rattle.std.proofs.lemmas.List.Folds.{list_any-append}
use Rattle.std.specs.List.{list_any}
use Rattle.std.specs.Prelude.{Some, None}
use Rattle.daemon_core.proofs.HouseLogKept.{boots-same}
use Rattle.update_log.specs.declared.event.Event.{Event}
use Rattle.update_log.specs.Pasts.{boots, client_of, is_boot, is_of, off, puts_off}
use Rattle.client_plays.specs.Moments.{Did, Grew, Moment, at, began, mine}

-- Whose event it is.
pub is_of-own : (client : ℕ) (event : Event) → client_of event ≡ Some client → is_of client event ≡ true
is_of-own client event e = rw e (eq-eqb client client refl)

pub is_of-other : (client other : ℕ) (event : Event) → client_of event ≡ Some client → other ≢ client → is_of other event ≡ false
is_of-other client other event e h = rw e (ne_eqb client other (λ same. h (sym same)))

pub is_of-nobody : (other : ℕ) (event : Event) → client_of event ≡ None → is_of other event ≡ false
is_of-nobody other event e = rw e refl

-- One event.
pub mine-own : (client : ℕ) (past : List Event) (event : Event) → is_boot event ≡ false → is_of client event ≡ true → mine client (event ∷ past) ≡ mine client past ++ at past event ∷ []
mine-own client past event b o = rw (b, o) refl

pub mine-other : (client : ℕ) (past : List Event) (event : Event) → is_boot event ≡ false → is_of client event ≡ false → mine client (event ∷ past) ≡ mine client past
mine-other client past event b o = rw (b, o) refl

pub mine-boot : (client : ℕ) (past : List Event) (event : Event) → is_boot event ≡ true → mine client (event ∷ past) ≡ []
mine-boot client past event b = rw b refl

pub began-same : (past : List Event) (event : Event) → is_boot event ≡ false → began (event ∷ past) ≡ began past
began-same past event b = rw b refl

any-none : (a b : List Event) → list_any is_boot a ≡ false → list_any is_boot b ≡ false → list_any is_boot (a ++ b) ≡ false
any-none a b x y = list_any-append is_boot a b ∙ or_from _ _ x y

pub grew-nothing : (past : List Event) → Grew past past
grew-nothing past = record { more = []; are = refl; no_boot = refl }

pub grew-one : (past : List Event) (event : Event) → is_boot event ≡ false → Grew past (event ∷ past)
grew-one past event b = record { more = event ∷ []; are = refl; no_boot = rw b refl }

pub grew-both : (old mid new : List Event) → Grew old mid → Grew mid new → Grew old new
grew-both old mid new a b =
    record {
      more = b.more ++ a.more;
      are = b.are ∙ ap (λ (x : List Event). b.more ++ x) a.are ∙ sym (append_assoc b.more a.more old);
      no_boot = any-none b.more a.more b.no_boot a.no_boot;
    }

boots-more : (more past : List Event) → list_any is_boot more ≡ false → boots (more ++ past) ≡ boots past
boots-more [] past b = refl
boots-more (event ∷ more) past b = let p = or_parts (is_boot event) (list_any is_boot more) b in boots-same (more ++ past) event p.0 ∙ boots-more more past p.1

pub grew-boots : (old new : List Event) → Grew old new → boots new ≡ boots old
grew-boots old new g = ap boots g.are ∙ boots-more g.more old g.no_boot

began-more : (more past : List Event) → list_any is_boot more ≡ false → began (more ++ past) ≡ began past
began-more [] past b = refl
began-more (event ∷ more) past b = let p = or_parts (is_boot event) (list_any is_boot more) b in began-same (more ++ past) event p.0 ∙ began-more more past p.1

pub grew-began : (old new : List Event) → Grew old new → began new ≡ began old
grew-began old new g = ap began g.are ∙ began-more g.more old g.no_boot

-- A boot that went off stays off.
off-more : (more past : List Event) → list_any is_boot more ≡ false → off past ≡ true → off (more ++ past) ≡ true
off-more [] past b e = e
off-more (event ∷ more) past b e =
    let p = or_parts (is_boot event) (list_any is_boot more) b in
    let rest : off (more ++ past) ≡ true = off-more more past p.1 e in
    rw (p.0, rest) (or-true (puts_off event))
  where
    or-true : (a : Bool) → (a || true) ≡ true
    or-true true = refl
    or-true false = refl

pub grew-off : (old new : List Event) → Grew old new → off old ≡ true → off new ≡ true
grew-off old new g e = ap off g.are ∙ off-more g.more old g.no_boot e

-- Nothing.
pub did-nothing : (client : ℕ) (past : List Event) → Did client [] past past
did-nothing client past =
    record {
      own = sym (append-nil (mine client past));
      others = λ other h. refl;
      grew = grew-nothing past;
    }

-- One event of the client.
pub did-one : (client : ℕ) (past : List Event) (event : Event) → is_boot event ≡ false → client_of event ≡ Some client → Did client (at past event ∷ []) past (event ∷ past)
did-one client past event b e =
    record {
      own = mine-own client past event b (is_of-own client event e);
      others = λ other h. mine-other other past event b (is_of-other client other event e h);
      grew = grew-one past event b;
    }

-- One event that is nobody's.
pub did-nobody : (client : ℕ) (past : List Event) (event : Event) → is_boot event ≡ false → client_of event ≡ None → Did client [] past (event ∷ past)
did-nobody client past event b e =
    record {
      own = mine-other client past event b (is_of-nobody client event e) ∙ sym (append-nil (mine client past));
      others = λ other h. mine-other other past event b (is_of-nobody other event e);
      grew = grew-one past event b;
    }

-- One stretch after another.
pub did-both : (client : ℕ) (first rest : List Moment) (old mid new : List Event) → Did client first old mid → Did client rest mid new → Did client (first ++ rest) old new
did-both client first rest old mid new a b =
    record {
      own = b.own ∙ ap (λ (x : List Moment). x ++ rest) a.own ∙ append_assoc (mine client old) first rest;
      others = λ other h. b.others other h ∙ a.others other h;
      grew = grew-both old mid new a.grew b.grew;
    }

-- Things played one after the other.
use Rattle.std.proofs.Common.{◌≡◌, ℕ, Bool, true, false, List, [], ◌∷◌, ◌++◌, append_assoc, append-nil, refl, ap, sym, ◌∙◌, inl, inr, subst}
use Rattle.client_plays.specs.Moments.{Moment}
use Rattle.client_plays.specs.Plays.{Leaves}
use Rattle.client_plays.specs.Scripts.{PlayedSo, PlaysAll, PlaysOne, PlaysUntil}

-- What was played whole is so where memory is told to be wanting.
pub one-more : {X : Type 0} (wanting : Bool) (client : ℕ) (Play : X → List Moment → Type 0) (x : X) (moments : List Moment) → PlaysOne wanting client Play x moments → PlaysOne true client Play x moments
one-more true client Play x moments p = p
one-more false client Play x moments p = inl p

-- One more is played.
pub all-push : {X : Type 0} (wanting : Bool) (client : ℕ) (Play : X → List Moment → Type 0) (xs : List X) (x : X) (moments more : List Moment) → PlaysAll wanting client Play xs moments → PlaysOne wanting client Play x more → PlaysAll wanting client Play (xs ++ x ∷ []) (moments ++ more)
all-push wanting client Play [] x moments more p q =
    record {
      first = more;
      rest = [];
      are = ap (λ (m : List Moment). m ++ more) p ∙ sym (append-nil more);
      first_is = q;
      rest_is = refl;
    }
all-push wanting client Play (y ∷ ys) x moments more p q =
    record {
      first = p.first;
      rest = p.rest ++ more;
      are = ap (λ (m : List Moment). m ++ more) p.are ∙ append_assoc p.first p.rest more;
      first_is = p.first_is;
      rest_is = all-push wanting client Play ys x p.rest more p.rest_is q;
    }

-- All were played, so they were until the end.
pub until-end : {X : Type 0} (wanting : Bool) (client : ℕ) (Play : X → List Moment → Type 0) (xs : List X) (moments : List Moment) → PlaysAll wanting client Play xs moments → PlaysUntil wanting client Play xs moments
until-end wanting client Play [] moments p = p
until-end wanting client Play (x ∷ xs) moments p =
    inr (record {
      first = p.first;
      rest = p.rest;
      are = p.are;
      first_is = p.first_is;
      rest_is = until-end wanting client Play xs p.rest p.rest_is;
    })

-- Some were played, and the next was left.
pub until-left : {X : Type 0} (wanting : Bool) (client : ℕ) (Play : X → List Moment → Type 0) (xs : List X) (x : X) (others : List X) (moments more : List Moment) → PlaysAll wanting client Play xs moments → Leaves client (Play x) more → PlaysUntil wanting client Play (xs ++ x ∷ others) (moments ++ more)
until-left wanting client Play [] x others moments more p q =
    let e : moments ++ more ≡ more = ap (λ (m : List Moment). m ++ more) p in
    inl (subst (Leaves client (Play x)) (sym e) q)
until-left wanting client Play (y ∷ ys) x others moments more p q =
    inr (record {
      first = p.first;
      rest = p.rest ++ more;
      are = ap (λ (m : List Moment). m ++ more) p.are ∙ append_assoc p.first p.rest more;
      first_is = p.first_is;
      rest_is = until-left wanting client Play ys x others p.rest more p.rest_is q;
    })

-- A boot that is off may end early, but need not.
pub so-all : {X : Type 0} (is_off wanting : Bool) (client : ℕ) (Play : X → List Moment → Type 0) (xs : List X) (moments : List Moment) → PlaysAll wanting client Play xs moments → PlayedSo is_off wanting client Play xs moments
so-all true wanting client Play xs moments p = until-end wanting client Play xs moments p
so-all false wanting client Play xs moments p = p

-- Where memory may be wanting, all that was played without want of it was.
pub all-more : {X : Type 0} (client : ℕ) (Play : X → List Moment → Type 0) (xs : List X) (moments : List Moment) (wanting : Bool) → PlaysAll wanting client Play xs moments → PlaysAll true client Play xs moments
all-more client Play [] moments wanting p = p
all-more client Play (x ∷ xs) moments wanting p =
    record {
      first = p.first;
      rest = p.rest;
      are = p.are;
      first_is = one-more wanting client Play x p.first p.first_is;
      rest_is = all-more client Play xs p.rest wanting p.rest_is;
    }

pub until-more : {X : Type 0} (client : ℕ) (Play : X → List Moment → Type 0) (xs : List X) (moments : List Moment) (wanting : Bool) → PlaysUntil wanting client Play xs moments → PlaysUntil true client Play xs moments
until-more client Play [] moments wanting p = p
until-more client Play (x ∷ xs) moments wanting p =
    elim p [
      | inl left ↦ inl left
      | inr t ↦
          inr (record {
            first = t.first;
            rest = t.rest;
            are = t.are;
            first_is = one-more wanting client Play x t.first t.first_is;
            rest_is = until-more client Play xs t.rest wanting t.rest_is;
          })
    ]

pub so-more : {X : Type 0} (is_off wanting : Bool) (client : ℕ) (Play : X → List Moment → Type 0) (xs : List X) (moments : List Moment) → PlayedSo is_off wanting client Play xs moments → PlayedSo is_off true client Play xs moments
so-more true wanting client Play xs moments p = until-more client Play xs moments wanting p
so-more false wanting client Play xs moments p = all-more client Play xs moments wanting p

-- Where nothing was done in a boot that is off, each is left before it began.
pub until-nothing : {X : Type 0} (wanting : Bool) (client : ℕ) (Play : X → List Moment → Type 0) (xs : List X) → ((x : X) → Leaves client (Play x) []) → PlaysUntil wanting client Play xs []
until-nothing wanting client Play [] h = refl
until-nothing wanting client Play (x ∷ xs) h = inl (h x)

-- What a worker has, over one call and over one call after another.
use Rattle.std.proofs.Common.{◌≡◌, ℕ, ◌<◌, ◌≤◌, ◌-◌, List, [], ◌∷◌, length, refl, ap, sym, ◌∙◌, subst, suc, arith}
use Rattle.update_log.specs.declared.facts.Facts.{Facts}
use Rattle.client_plays.specs.Tools.{Serves, ShelfTold, ShelvesStay, Tools, ToolsStay}

pub shelves-here : (s : List ShelfTold) → ShelvesStay s s
shelves-here [] = tt
shelves-here (s ∷ rest) = (record { files = refl; counts = omega arith }, shelves-here rest)

pub le-both : (a b c : ℕ) → a ≤ b → b ≤ c → a ≤ c
le-both a b c x y = omega arith

pub shelves-both : (a b c : List ShelfTold) → ShelvesStay a b → ShelvesStay b c → ShelvesStay a c
shelves-both [] [] [] x y = tt
shelves-both [] [] (z ∷ c) x y = absurd y
shelves-both [] (z ∷ b) c x y = absurd x
shelves-both (z ∷ a) [] c x y = absurd x
shelves-both (p ∷ a) (q ∷ b) [] x y = absurd y
shelves-both (p ∷ a) (q ∷ b) (r ∷ c) x y = (
  record { files = y.0.files ∙ x.0.files; counts = le-both p.faults q.faults r.faults x.0.counts y.0.counts },
  shelves-both a b c x.1 y.1,
)

pub shelves-long : (a b : List ShelfTold) → ShelvesStay a b → length b ≡ length a
shelves-long [] [] s = refl
shelves-long [] (z ∷ b) s = absurd s
shelves-long (z ∷ a) [] s = absurd s
shelves-long (p ∷ a) (q ∷ b) s = ap suc (shelves-long a b s.1)

-- A worker that could work for a client still can.
pub serves-later : (old new : Tools) (facts now : Facts) (client : ℕ) → Serves old facts client → ToolsStay old new → now ≡ facts → Serves new now client
serves-later old new facts now client s t e =
    subst (λ (f : Facts). Serves new f client) (sym e)
    (record {
      plugins = subst (λ (n : ℕ). length facts.vetoes ≤ n) (sym t.plugins) s.plugins;
      shelf = subst (λ (n : ℕ). client - 1 < n) (sym (shelves-long old.shelves new.shelves t.shelves)) s.shelf;
    })

-- One that can work for the daemon can for as many clients as it has shelves.
pub serves-all : (tools : Tools) (facts : Facts) (clients : ℕ) → Serves tools facts 0 → clients ≤ length tools.shelves → Serves tools facts clients
serves-all tools facts clients s l =
    let within = s.shelf in
    record { plugins = s.plugins; shelf = omega arith }

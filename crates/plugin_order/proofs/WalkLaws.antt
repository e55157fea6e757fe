-- The walk of conflicts, a turn at a time.
use Rattle.std.proofs.Common.{◌≡◌, ℕ, ◌+◌, ◌<◌, Bool, true, false, cond, not, ◌&&◌, ◌||◌, List, [], ◌∷◌, ◌++◌, length, take, get_or, slice_index_or, refl, sym, ap, ◌∙◌, subst}
use Rattle.std.proofs.lemmas.List.{take_more}
use Rattle.std.proofs.lemmas.List.Folds.{list_any-append}
use Rattle.std.proofs.lemmas.Bool.{not-true, not-false}
use Rattle.std.specs.Prelude.{bytes_eq}
use Rattle.plugin_order.specs.declared.sheet.PluginSheet.{PluginSheet}
use Rattle.plugin_order.specs.Sheets.{names, name_at, conflicts_at}
use Rattle.plugin_order.specs.Arranged.{off_after, disabled, IsOff}

neither : (a b : Bool) → not a && not b ≡ not (a || b)
neither true b = refl
neither false b = refl

-- the turn of a plugin that is on
pub turn_on : (sheets : List PluginSheet) (off : List (List ℕ)) (old new : List Bool) (p : ℕ) → p < length sheets
    → slice_index_or old p false ≡ true
    → ((q : ℕ) → q < length sheets → slice_index_or new q false ≡ (slice_index_or old q false && not (names (conflicts_at sheets p) (name_at sheets q))))
    → IsOff sheets off old → IsOff sheets (off_after sheets off p) new
turn_on sheets off old new p lt on step was =
    let out : names off (name_at sheets p) ≡ false = not-true (names off (name_at sheets p)) (sym (was p lt) ∙ on) in
    let e : off_after sheets off p ≡ off ++ conflicts_at sheets p = ap (λ b. cond b off (off ++ conflicts_at sheets p)) out in
    subst (λ xs. IsOff sheets xs new) (sym e) (λ q h.
    step q h ∙ ap (λ b. b && not (names (conflicts_at sheets p) (name_at sheets q))) (was q h)
    ∙ neither (names off (name_at sheets q)) (names (conflicts_at sheets p) (name_at sheets q))
    ∙ ap not (sym (list_any-append (λ other. bytes_eq other (name_at sheets q)) off (conflicts_at sheets p))))

-- the turn of a plugin that is off
pub turn_off : (sheets : List PluginSheet) (off : List (List ℕ)) (old : List Bool) (p : ℕ) → p < length sheets
    → slice_index_or old p false ≡ false → IsOff sheets off old → IsOff sheets (off_after sheets off p) old
turn_off sheets off old p lt on was =
    let inside : names off (name_at sheets p) ≡ true = not-false (names off (name_at sheets p)) (sym (was p lt) ∙ on) in
    let e : off_after sheets off p ≡ off = ap (λ b. cond b off (off ++ conflicts_at sheets p)) inside in
    subst (λ xs. IsOff sheets xs old) (sym e) was

disabled-push : (sheets : List PluginSheet) (off : List (List ℕ)) (ps : List ℕ) (p : ℕ)
    → disabled sheets off (ps ++ p ∷ []) ≡ off_after sheets (disabled sheets off ps) p
disabled-push sheets off [] p = refl
disabled-push sheets off (q ∷ ps) p = disabled-push sheets (off_after sheets off q) ps p

-- one more turn
pub disabled-more : (sheets : List PluginSheet) (order : List ℕ) (i : ℕ) → i < length order
    → disabled sheets [] (take (i + 1) order) ≡ off_after sheets (disabled sheets [] (take i order)) (get_or order i 0)
disabled-more sheets order i h =
    ap (λ (ps : List ℕ). disabled sheets [] ps) (take_more order i 0 h) ∙ disabled-push sheets [] (take i order) (get_or order i 0)

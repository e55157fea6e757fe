-- Rows, of which the newest come first.
use Rattle.std.proofs.Common.{◌≡◌, ℕ, ◌+◌, ◌-◌, ◌<◌, arith, Bool, true, ◌&&◌, if◌then◌else◌, List, [], ◌∷◌, ◌++◌, length, take, get_or, reverse, refl, sym, ap, ◌∙◌}
use Rattle.std.specs.Prelude.{Option, Some}
use Rattle.std.specs.Str.{bytes_eq}
use Rattle.std.proofs.lemmas.List.{get_or-reverse, length-reverse, reverse-append, take_more}
use Rattle.history_keeper.specs.declared.row.Row.{Row}
use Rattle.update_log.specs.Once.{is_pending}
use Rattle.update_log.proofs.Lists.{by_test}
use Rattle.client_scripts.specs.Replies.{waiting}
use Rattle.client_scripts.proofs.Pieces.{PutUpTo, put_one}

-- One more row, which waits for the next boot or doesn't.
waiting_push : (rows : List Row) (row : Row) (device : List ℕ) → waiting (rows ++ row ∷ []) device ≡ (if is_pending row.state && bytes_eq row.device device then Some row.entry else waiting rows device)
waiting_push rows row device =
    let turned : reverse (rows ++ row ∷ []) ≡ row ∷ reverse rows = reverse-append rows (row ∷ []) in
    rw turned (by_test (is_pending row.state && bytes_eq row.device device) _ (λ t. rw t refl) (λ t. rw t refl))

pub waiting_more : (rows : List Row) (i : ℕ) (row : Row) (device : List ℕ) (old new : Option ℕ) → i < length rows → row ≡ get_or rows i row
    → old ≡ waiting (take i rows) device → new ≡ (if is_pending row.state && bytes_eq row.device device then Some row.entry else old) → new ≡ waiting (take (i + 1) rows) device
waiting_more rows i row device old new lt is before after =
    let far : take (i + 1) rows ≡ take i rows ++ row ∷ [] = take_more rows i row lt ∙ ap (λ (r : Row). take i rows ++ r ∷ []) (sym is) in
    after ∙ ap (λ (o : Option ℕ). if is_pending row.state && bytes_eq row.device device then Some row.entry else o) before
    ∙ sym (waiting_push (take i rows) row device) ∙ sym (ap (λ (rs : List Row). waiting rs device) far)

-- One more row from the end.
pub newest_more : (line : Row → List ℕ) (rows : List Row) (i : ℕ) (row : Row) (old new more : List ℕ) → i < length rows → row ≡ get_or rows (length rows - 1 - i) row
    → PutUpTo line (reverse rows) i old new → more ≡ new ++ line row → PutUpTo line (reverse rows) (i + 1) old more
newest_more line rows i row old new more lt is so put =
    let far : i < length (reverse rows) = omega (arith, length-reverse rows) in
    let there : row ≡ get_or (reverse rows) i row = is ∙ sym (get_or-reverse rows i row lt) in
    put_one line (reverse rows) i row old new more far there so put

-- A row that waits is noted.
pub noted : (p b : Bool) (x y z : Option ℕ) → p ≡ true → z ≡ (if b then x else y) → z ≡ (if p && b then x else y)
noted p b x y z h e = rw h e

-- One more turn of the loops over the texts of references.
use Rattle.std.proofs.Common.{◌≡◌, ℕ, ◌+◌, ◌<◌, Bool, true, false, List, [], ◌∷◌, ◌++◌, Bor, length, take, map, get_or, sym, ap, ◌∙◌, append_assoc, append-nil, arith, if◌then◌else◌}
use Rattle.std.specs.List.{fold, flat_map}
use Rattle.std.proofs.lemmas.List.{take_more, get_or-map, length-map}
use Rattle.std.proofs.lemmas.List.Sums.{fold_more}
use Rattle.std.proofs.lemmas.Grind.{flat_map-append}
use Rattle.report_view.specs.Reading.{line_read}
use Rattle.report_view.specs.Marks.{belongs, detail, details}

-- one more text is taken into a fold
pub fold_texts : {Y : Type 0} (f : Y → List ℕ → Y) (a : Y) (lines : List (Bor (List ℕ))) (i : ℕ) (d : Bor (List ℕ)) (old new : Y) → i < length lines
    → old ≡ fold f a (take i (map (λ (l : Bor (List ℕ)). l.now) lines)) → new ≡ f old (get_or lines i d).now
    → new ≡ fold f a (take (i + 1) (map (λ (l : Bor (List ℕ)). l.now) lines))
fold_texts {Y} f a lines i d old new lt so_far is =
    let now : Bor (List ℕ) → List ℕ = λ l. l.now in
    let within : i < length (map now lines) = omega (arith, length-map lines now) in
    is ∙ ap (λ (y : Y). f y (get_or lines i d).now) so_far
    ∙ ap (λ (text : List ℕ). f (fold f a (take i (map now lines))) text) (sym (get_or-map now lines i d [] lt))
    ∙ sym (fold_more f a (map now lines) i [] within)

-- one more text is put behind the others
pub put_text : (f : List ℕ → List ℕ) (lines : List (Bor (List ℕ))) (i : ℕ) (d : Bor (List ℕ)) (old out new : List ℕ) → i < length lines
    → out ≡ old ++ flat_map f (take i (map (λ (l : Bor (List ℕ)). l.now) lines)) → new ≡ out ++ f (get_or lines i d).now
    → new ≡ old ++ flat_map f (take (i + 1) (map (λ (l : Bor (List ℕ)). l.now) lines))
put_text f lines i d old out new lt so_far put =
    let now : Bor (List ℕ) → List ℕ = λ l. l.now in
    let within : i < length (map now lines) = omega (arith, length-map lines now) in
    let text : List ℕ = get_or (map now lines) i [] in
    let more : flat_map f (take (i + 1) (map now lines)) ≡ flat_map f (take i (map now lines)) ++ f text =
    ap (flat_map f) (take_more (map now lines) i [] within) ∙ flat_map-append f (take i (map now lines)) (text ∷ [])
    ∙ ap (λ (t : List ℕ). flat_map f (take i (map now lines)) ++ t) (append-nil (f text)) in
    put ∙ ap (λ (t : List ℕ). t ++ f (get_or lines i d).now) so_far
    ∙ append_assoc old (flat_map f (take i (map now lines))) (f (get_or lines i d).now)
    ∙ ap (λ (t : List ℕ). old ++ (flat_map f (take i (map now lines)) ++ f t)) (sym (get_or-map now lines i d [] lt))
    ∙ ap (λ (t : List ℕ). old ++ t) (sym more)

-- one more line belongs to an event
pub details_more : (later rest : List (List ℕ)) (line : List ℕ) (out new whole : List ℕ) → later ≡ line ∷ rest → belongs (line_read line) ≡ true
    → new ≡ out ++ detail line → out ++ details later ≡ whole → new ++ details rest ≡ whole
unfolding details
details_more later rest line out new whole is goes put so_far =
    ap (λ (t : List ℕ). t ++ details rest) put ∙ append_assoc out (detail line) (details rest)
    ∙ ap (λ (b : Bool). out ++ (if b then detail line ++ details rest else [])) (sym goes)
    ∙ ap (λ (ls : List (List ℕ)). out ++ details ls) (sym is) ∙ so_far

-- a line doesn't belong to the event, so none behind it does
pub details_end : (later rest : List (List ℕ)) (line : List ℕ) (out whole : List ℕ) → later ≡ line ∷ rest → belongs (line_read line) ≡ false
    → out ++ details later ≡ whole → out ≡ whole
unfolding details
details_end later rest line out whole is stops so_far =
    sym (append-nil out)
    ∙ ap (λ (b : Bool). out ++ (if b then detail line ++ details rest else [])) (sym stops)
    ∙ ap (λ (ls : List (List ℕ)). out ++ details ls) (sym is) ∙ so_far

pub details_none : (later : List (List ℕ)) (out whole : List ℕ) → later ≡ [] → out ++ details later ≡ whole → out ≡ whole
unfolding details
details_none later out whole is so_far = sym (append-nil out) ∙ ap (λ (ls : List (List ℕ)). out ++ details ls) (sym is) ∙ so_far

-- One more turn of the loops over the lines.
use Rattle.std.proofs.Common.{◌≡◌, ℕ, ◌+◌, ◌<◌, ◌≤◌, Bool, List, [], ◌∷◌, ◌++◌, Bor, length, drop, map, get_or, sym, ap, ◌∙◌, append_assoc, append-nil, length-append, arith}
use Rattle.std.proofs.lemmas.List.{drop_more, drop_all, get_or-map, length-map}
use Rattle.report_view.specs.declared.event.Event.{Event}
use Rattle.report_view.specs.declared.line.Line.{Line}
use Rattle.report_view.specs.Events.{event_here, events_from, is_owner, is_stray, stray_here, strays_from}
use Rattle.report_view.specs.Reading.{line_read}

-- the lines from a place on, as the texts of references
pub texts_from : (lines : List (Bor (List ℕ))) (i : ℕ) (d : Bor (List ℕ)) → i < length lines
    → drop i (map (λ (l : Bor (List ℕ)). l.now) lines) ≡ (get_or lines i d).now ∷ drop (i + 1) (map (λ (l : Bor (List ℕ)). l.now) lines)
texts_from lines i d lt =
    let f : Bor (List ℕ) → List ℕ = λ l. l.now in
    let within : i < length (map f lines) = omega (arith, length-map lines f) in
    drop_more (map f lines) i [] within
    ∙ ap (λ (text : List ℕ). text ∷ drop (i + 1) (map f lines)) (get_or-map f lines i d [] lt)

pub none_from : (lines : List (Bor (List ℕ))) (i : ℕ) → length lines ≤ i → drop i (map (λ (l : Bor (List ℕ)). l.now) lines) ≡ []
none_from lines i le =
    let f : Bor (List ℕ) → List ℕ = λ l. l.now in
    let all : length (map f lines) ≤ i = omega (arith, length-map lines f) in
    drop_all i (map f lines) all

pub events_more : (later rest : List (List ℕ)) (line : List ℕ) (i : ℕ) (front new whole : List Event) → later ≡ line ∷ rest
    → new ≡ front ++ event_here (line_read line) i (length front) → front ++ events_from i later (length front) ≡ whole
    → new ++ events_from (i + 1) rest (length new) ≡ whole
unfolding events_from
events_more later rest line i front new whole is put so_far =
    let here : List Event = event_here (line_read line) i (length front) in
    let count : length new ≡ length front + length here = ap length put ∙ length-append front here in
    ap (λ (n : ℕ). new ++ events_from (i + 1) rest n) count
    ∙ ap (λ (es : List Event). es ++ events_from (i + 1) rest (length front + length here)) put
    ∙ append_assoc front here (events_from (i + 1) rest (length front + length here))
    ∙ ap (λ (ls : List (List ℕ)). front ++ events_from i ls (length front)) (sym is) ∙ so_far

pub events_all : (later : List (List ℕ)) (i : ℕ) (front whole : List Event) → later ≡ [] → front ++ events_from i later (length front) ≡ whole → front ≡ whole
unfolding events_from
events_all later i front whole is so_far =
    sym (append-nil front) ∙ ap (λ (ls : List (List ℕ)). front ++ events_from i ls (length front)) (sym is) ∙ so_far

pub strays_more : (later rest : List (List ℕ)) (line : List ℕ) (i : ℕ) (told : Line) (owned after : Bool) (front new whole : List ℕ) → later ≡ line ∷ rest
    → told ≡ line_read line → new ≡ front ++ stray_here (is_stray told owned) i → after ≡ is_owner told owned
    → front ++ strays_from i later owned ≡ whole → new ++ strays_from (i + 1) rest after ≡ whole
unfolding strays_from
strays_more later rest line i told owned after front new whole is read put then so_far =
    let here : List ℕ = stray_here (is_stray (line_read line) owned) i in
    let put' : new ≡ front ++ here = put ∙ ap (λ (l : Line). front ++ stray_here (is_stray l owned) i) read in
    let then' : after ≡ is_owner (line_read line) owned = then ∙ ap (λ (l : Line). is_owner l owned) read in
    ap (λ (b : Bool). new ++ strays_from (i + 1) rest b) then'
    ∙ ap (λ (ss : List ℕ). ss ++ strays_from (i + 1) rest (is_owner (line_read line) owned)) put'
    ∙ append_assoc front here (strays_from (i + 1) rest (is_owner (line_read line) owned))
    ∙ ap (λ (ls : List (List ℕ)). front ++ strays_from i ls owned) (sym is) ∙ so_far

pub strays_all : (later : List (List ℕ)) (i : ℕ) (owned : Bool) (front whole : List ℕ) → later ≡ [] → front ++ strays_from i later owned ≡ whole → front ≡ whole
unfolding strays_from
strays_all later i owned front whole is so_far =
    sym (append-nil front) ∙ ap (λ (ls : List (List ℕ)). front ++ strays_from i ls owned) (sym is) ∙ so_far

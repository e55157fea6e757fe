-- The parts of a page, put one behind the other.
use Rattle.std.proofs.Common.{◌≡◌, ℕ, Bool, not, List, ◌++◌, Bor, Option, Result, length, map, refl, ap, subst, ◌∙◌, append_assoc}
use Rattle.std.specs.Prelude.{◌==◌, IfOk, OnOk}
use Rattle.std.specs.List.{flat_map}
use Rattle.report_view.specs.declared.drawn.Drawn.{Drawn}
use Rattle.report_view.specs.declared.event.Event.{Event}
use Rattle.report_view.specs.declared.row.Row.{Row}
use Rattle.report_view.specs.Events.{all_but_last, events, last_piece, lines_of, pieces_of, rest_of, strays}
use Rattle.report_view.specs.Rows.{rows_of}
use Rattle.report_view.specs.Lanes.{clients_of, names_of}
use Rattle.report_view.specs.Marks.{mark}
use Rattle.report_view.specs.Pages.{after_marks, before_marks, drawn_by, drawn_of, last_told, page, page_after, page_before, page_of, titled}

-- three parts behind a text
pub three_parts : (old one two three before middle behind : List ℕ) → one ≡ old ++ before → two ≡ one ++ middle → three ≡ two ++ behind
    → three ≡ old ++ (before ++ middle ++ behind)
three_parts old one two three before middle behind first second third =
    third ∙ ap (λ (t : List ℕ). t ++ behind) (second ∙ ap (λ (t : List ℕ). t ++ middle) first)
    ∙ ap (λ (t : List ℕ). t ++ behind) (append_assoc old before middle) ∙ append_assoc old (before ++ middle) behind

-- what is told of all events is told of the events of the lines
pub page_put : (all : List (List ℕ)) (rest old one two three : List ℕ) (es : List Event) (rows : List Row) (told : Option ℕ)
    (clients : List ℕ) (names : List (List ℕ)) (ss : List ℕ)
    → es ≡ events all → rows ≡ rows_of all (events all) → clients ≡ clients_of (events all) → names ≡ names_of all (rows_of all (events all))
    → ss ≡ strays all → told ≡ last_told all
    → one ≡ old ++ before_marks es rows told (length ss) → two ≡ one ++ flat_map (mark all) es
    → three ≡ two ++ after_marks all rest rows (length es) clients names ss → three ≡ old ++ page_of all rest
unfolding page_before page_after
page_put all rest old one two three es rows told clients names ss is-es is-rows is-clients is-names is-ss is-told first second third =
    let before : before_marks es rows told (length ss) ≡ page_before all =
    ap (λ (e : List Event). before_marks e rows told (length ss)) is-es
    ∙ ap (λ (r : List Row). before_marks (events all) r told (length ss)) is-rows
    ∙ ap (λ (t : Option ℕ). before_marks (events all) (rows_of all (events all)) t (length ss)) is-told
    ∙ ap (λ (s : List ℕ). before_marks (events all) (rows_of all (events all)) (last_told all) (length s)) is-ss in
    let middle : flat_map (mark all) es ≡ flat_map (mark all) (events all) = ap (λ (e : List Event). flat_map (mark all) e) is-es in
    let behind : after_marks all rest rows (length es) clients names ss ≡ page_after all rest =
    ap (λ (e : List Event). after_marks all rest rows (length e) clients names ss) is-es
    ∙ ap (λ (r : List Row). after_marks all rest r (length (events all)) clients names ss) is-rows
    ∙ ap (λ (cs : List ℕ). after_marks all rest (rows_of all (events all)) (length (events all)) cs names ss) is-clients
    ∙ ap (λ (ns : List (List ℕ)). after_marks all rest (rows_of all (events all)) (length (events all)) (clients_of (events all)) ns ss) is-names
    ∙ ap (λ (s : List ℕ). after_marks all rest (rows_of all (events all)) (length (events all)) (clients_of (events all)) (names_of all (rows_of all (events all))) s) is-ss in
    three_parts old one two three (page_before all) (flat_map (mark all) (events all)) (page_after all rest)
    (first ∙ ap (λ (t : List ℕ). old ++ t) before) (second ∙ ap (λ (t : List ℕ). one ++ t) middle) (third ∙ ap (λ (t : List ℕ). two ++ t) behind)

-- what the page of lines shows
pub drawn_put : (all : List (List ℕ)) (rest : List ℕ) (es : List Event) (ss : List ℕ) (told : Option ℕ) (title empty : Bool)
    → es ≡ events all → ss ≡ strays all → told ≡ last_told all → title ≡ titled all → empty ≡ (length rest == 0)
    → let drawn : Drawn = record { events = length es; unread = length ss; told = told; titled = title; trailing = not empty } in drawn ≡ drawn_by all rest
drawn_put all rest es ss told title empty is-es is-ss is-told is-title is-empty = rw (is-es, is-ss, is-told, is-title, is-empty) refl

-- the lines of a text, and what stands behind the last, of its pieces
pub lines_same : (pieces found : List (Bor (List ℕ))) (text : List ℕ) (lines : List (List ℕ)) → found ≡ pieces
    → map (λ (piece : Bor (List ℕ)). piece.now) pieces ≡ pieces_of text → lines ≡ all_but_last (map (λ (piece : Bor (List ℕ)). piece.now) found) → lines ≡ lines_of text
lines_same pieces found text lines is are made =
    made ∙ ap (λ (f : List (Bor (List ℕ))). all_but_last (map (λ (piece : Bor (List ℕ)). piece.now) f)) is ∙ ap all_but_last are

pub rest_same : (pieces found : List (Bor (List ℕ))) (text rest : List ℕ) → found ≡ pieces
    → map (λ (piece : Bor (List ℕ)). piece.now) pieces ≡ pieces_of text → rest ≡ last_piece (map (λ (piece : Bor (List ℕ)). piece.now) found) → rest ≡ rest_of text
rest_same pieces found text rest is are made =
    made ∙ ap (λ (f : List (Bor (List ℕ))). last_piece (map (λ (piece : Bor (List ℕ)). piece.now) f)) is ∙ ap last_piece are

pub page_moved : {T E : Type 0} (r : Result T E) (new old : List ℕ) (all : List (List ℕ)) (rest text : List ℕ) → all ≡ lines_of text → rest ≡ rest_of text
    → OnOk r (new ≡ old ++ page_of all rest) → OnOk r (new ≡ old ++ page text)
page_moved r new old all rest text is-all is-rest h =
    let P : List (List ℕ) → Type 0 = λ a. OnOk r (new ≡ old ++ page_of a rest) in
    let Q : List ℕ → Type 0 = λ t. OnOk r (new ≡ old ++ page_of (lines_of text) t) in
    subst Q is-rest (subst P is-all h)

pub drawn_moved : {E : Type 0} (r : Result Drawn E) (all : List (List ℕ)) (rest text : List ℕ) → all ≡ lines_of text → rest ≡ rest_of text
    → IfOk r (λ drawn. drawn ≡ drawn_by all rest) → IfOk r (λ drawn. drawn ≡ drawn_of text)
drawn_moved r all rest text is-all is-rest h =
    let P : List (List ℕ) → Type 0 = λ a. IfOk r (λ drawn. drawn ≡ drawn_by a rest) in
    let Q : List ℕ → Type 0 = λ t. IfOk r (λ drawn. drawn ≡ drawn_by (lines_of text) t) in
    subst Q is-rest (subst P is-all h)

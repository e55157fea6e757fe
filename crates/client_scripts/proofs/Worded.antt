-- Words that a loop puts one behind the other, with commas between them.
use Rattle.std.proofs.Common.{◌≡◌, ℕ, ◌+◌, ◌<◌, ◌≤◌, Bool, true, false, ◌||◌, if◌then◌else◌, List, [], ◌∷◌, ◌++◌, codes, length, take, map, filter, get_or, refl, sym, ap, ◌∙◌, append_assoc}
use Rattle.std.specs.List.{flat_map}
use Rattle.std.proofs.lemmas.List.{get_or_default, take_all, take_more, append-nil}
use Rattle.std.proofs.lemmas.Grind.{flat_map-append}
use Rattle.update_log.proofs.Lists.{by_test}
use Rattle.client_scripts.specs.Replies.{with_commas}
use Rattle.client_scripts.specs.Commas.{comma_if, end_text, has_begun, so_far}

-- A word, where it belongs to the list.
abbrev pub one_if : Bool → List ℕ → List (List ℕ)
one_if listed word = if listed then word ∷ [] else []

begun_more : (words : List (List ℕ)) (listed : Bool) (word : List ℕ) → has_begun (words ++ one_if listed word) ≡ (listed || has_begun words)
begun_more [] true word = refl
begun_more [] false word = refl
begun_more (w ∷ words) true word = refl
begun_more (w ∷ words) false word = refl

text_more : (words : List (List ℕ)) (listed : Bool) (word : List ℕ) → so_far (words ++ one_if listed word) ≡ so_far words ++ (if listed then comma_if (has_begun words) ++ word else [])
text_more [] true word = append-nil word
text_more [] false word = refl
text_more (w ∷ words) true word =
    ap (λ (t : List ℕ). w ++ t) (flat_map-append (λ next. codes "," ++ next) words (word ∷ []) ∙ ap (λ (t : List ℕ). flat_map (λ next. codes "," ++ next) words ++ t) (append-nil (codes "," ++ word)))
    ∙ sym (append_assoc w (flat_map (λ next. codes "," ++ next) words) (codes "," ++ word))
text_more (w ∷ words) false word =
    ap so_far (append-nil (w ∷ words)) ∙ sym (append-nil (so_far (w ∷ words)))

all_text : (words : List (List ℕ)) → so_far words ++ end_text (has_begun words) ≡ with_commas words
all_text [] = refl
all_text (w ∷ words) = append-nil (so_far (w ∷ words))

-- What a loop has put behind a text.
pub record Worded (words : List (List ℕ)) (old new : List ℕ) (had : Bool) : Type 0 where
  pub text : new ≡ old ++ so_far words
  pub begun : had ≡ has_begun words

-- One more word.
worded_more : (words : List (List ℕ)) (listed : Bool) (word old new more : List ℕ) (had has : Bool) → Worded words old new had
    → more ≡ new ++ (if listed then comma_if had ++ word else []) → has ≡ (listed || had) → Worded (words ++ one_if listed word) old more has
worded_more words listed word old new more had has so put begun =
    record {
      text =
          put ∙ ap (λ (t : List ℕ). t ++ (if listed then comma_if had ++ word else [])) so.text
          ∙ append_assoc old (so_far words) (if listed then comma_if had ++ word else [])
          ∙ ap (λ b. old ++ (so_far words ++ (if listed then comma_if b ++ word else []))) so.begun
          ∙ ap (λ (t : List ℕ). old ++ t) (sym (text_more words listed word));
      begun = begun ∙ ap (λ b. listed || b) so.begun ∙ sym (begun_more words listed word);
    }

-- The words of the elements that belong to the list.
abbrev pub words_of : {X : Type 0} → (X → Bool) → (X → List ℕ) → List X → List (List ℕ)
words_of fits word xs = map word (filter fits xs)

words_of-push : {X : Type 0} (fits : X → Bool) (word : X → List ℕ) (xs : List X) (x : X) → words_of fits word (xs ++ x ∷ []) ≡ words_of fits word xs ++ one_if (fits x) (word x)
words_of-push fits word [] x = by_test (fits x) _ (λ t. rw t refl) (λ t. rw t refl)
words_of-push fits word (y ∷ xs) x =
    let rest : words_of fits word (xs ++ x ∷ []) ≡ words_of fits word xs ++ one_if (fits x) (word x) = words_of-push fits word xs x in
    by_test (fits y) _ (λ t. rw t (ap (λ (ws : List (List ℕ)). word y ∷ ws) rest)) (λ t. rw t rest)

pub put_fit : {X : Type 0} (fits : X → Bool) (word : X → List ℕ) (xs : List X) (i : ℕ) (x : X) (listed : Bool) (text old new more : List ℕ) (had has : Bool)
    → i < length xs → x ≡ get_or xs i x → listed ≡ fits x → text ≡ word x
    → Worded (words_of fits word (take i xs)) old new had
    → more ≡ new ++ (if listed then comma_if had ++ text else []) → has ≡ (listed || had) → Worded (words_of fits word (take (i + 1) xs)) old more has
put_fit {X} fits word xs i x listed text old new more had has lt is fit said so put begun =
    let far : take (i + 1) xs ≡ take i xs ++ x ∷ [] = take_more xs i x lt ∙ ap (λ (r : X). take i xs ++ r ∷ []) (sym is) in
    let now : Worded (words_of fits word (take i xs) ++ one_if listed text) old more has = worded_more (words_of fits word (take i xs)) listed text old new more had has so put begun in
    let next : words_of fits word (take i xs) ++ one_if listed text ≡ words_of fits word (take (i + 1) xs) =
    ap (λ b. words_of fits word (take i xs) ++ one_if b text) fit ∙ ap (λ (t : List ℕ). words_of fits word (take i xs) ++ one_if (fits x) t) said
    ∙ sym (words_of-push fits word (take i xs) x) ∙ sym (ap (words_of fits word) far) in
    record { text = now.text ∙ ap (λ (ws : List (List ℕ)). old ++ so_far ws) next; begun = now.begun ∙ ap has_begun next }

pub put_fits : {X : Type 0} (fits : X → Bool) (word : X → List ℕ) (xs : List X) (i : ℕ) (old new more : List ℕ) (had : Bool) → length xs ≤ i
    → Worded (words_of fits word (take i xs)) old new had → more ≡ new ++ end_text had → more ≡ old ++ with_commas (words_of fits word xs)
put_fits {X} fits word xs i old new more had le so put =
    put ∙ ap (λ (t : List ℕ). t ++ end_text had) so.text ∙ append_assoc old (so_far (words_of fits word (take i xs))) (end_text had)
    ∙ ap (λ b. old ++ (so_far (words_of fits word (take i xs)) ++ end_text b)) so.begun
    ∙ ap (λ (t : List ℕ). old ++ t) (all_text (words_of fits word (take i xs)))
    ∙ ap (λ (ys : List X). old ++ with_commas (words_of fits word ys)) (take_all i xs le)

-- Without a test all belong to it.
pub all_fit : {X : Type 0} (xs : List X) → filter (λ x. true) xs ≡ xs
all_fit [] = refl
all_fit {X} (x ∷ xs) = ap (λ (ys : List X). x ∷ ys) (all_fit xs)

-- The same for an element that is read from a list of them.
pub put_fit_at : {X : Type 0} (fits : X → Bool) (word : X → List ℕ) (xs : List X) (i : ℕ) (d : X) (listed : Bool) (text old new more : List ℕ) (had has : Bool)
    → i < length xs → listed ≡ fits (get_or xs i d) → text ≡ word (get_or xs i d)
    → Worded (words_of fits word (take i xs)) old new had
    → more ≡ new ++ (if listed then comma_if had ++ text else []) → has ≡ (listed || had) → Worded (words_of fits word (take (i + 1) xs)) old more has
put_fit_at fits word xs i d listed text old new more had has lt fit said so put begun =
    put_fit fits word xs i (get_or xs i d) listed text old new more had has lt (get_or_default xs i d (get_or xs i d) lt) fit said so put begun

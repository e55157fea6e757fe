-- What a sink took, in pieces one behind the other; and counts of faults over several calls.
use Rattle.std.proofs.Common.{◌≡◌, ℕ, List, [], ◌++◌, take, drop, Option, Some, None, refl, sym, ap, ◌∙◌, append_assoc}
use Rattle.std.proofs.lemmas.List.{take-append-drop, append-nil}
use Rattle.outer_traits.specs.Sinks.{Took, TookFront}

-- One piece, and then another.
pub took_more : (one two : List ℕ) (a b c : Option (List ℕ)) → Took one a b → Took two b c → Took (one ++ two) a c
took_more one two (Some before) b c h k = rw (k, h) (ap Some (append_assoc before one two))
took_more one two None b c h k = rw (k, h) refl

-- Nothing.
pub took_none : (a : Option (List ℕ)) → Took [] a a
took_none (Some before) = ap Some (sym (append-nil before))
took_none None = refl

-- Nothing is a front of anything.
pub front_none : (bytes : List ℕ) (a : Option (List ℕ)) → TookFront bytes a a
front_none bytes a = record { front = []; rest = bytes; parts = refl; took = took_none a }

-- It stopped in the first of two parts.
pub front_first : (one two : List ℕ) (a b : Option (List ℕ)) → TookFront one a b → TookFront (one ++ two) a b
front_first one two a b t = record {
  front = t.front;
  rest = t.rest ++ two;
  parts = ap (λ (x : List ℕ). x ++ two) t.parts ∙ append_assoc t.front t.rest two;
  took = t.took;
}

-- It stopped in the second of two parts.
pub front_later : (one two : List ℕ) (a b c : Option (List ℕ)) → Took one a b → TookFront two b c → TookFront (one ++ two) a c
front_later one two a b c h t = record {
  front = one ++ t.front;
  rest = t.rest;
  parts = ap (λ (x : List ℕ). one ++ x) t.parts ∙ sym (append_assoc one t.front t.rest);
  took = took_more one t.front a b c h t.took;
}

-- A front was taken, and this rest is still to be written.
pub record StillToWrite (bytes rest : List ℕ) (a b : Option (List ℕ)) : Type 0 where
  pub front : List ℕ
  pub parts : bytes ≡ front ++ rest
  pub took : Took front a b

-- The next n bytes were taken too.
pub still_less : (bytes rest : List ℕ) (n : ℕ) (a b c : Option (List ℕ)) → StillToWrite bytes rest a b → Took (take n rest) b c → StillToWrite bytes (drop n rest) a c
still_less bytes rest n a b c s k = record {
  front = s.front ++ take n rest;
  parts = s.parts ∙ ap (λ (x : List ℕ). s.front ++ x) (sym (take-append-drop n rest)) ∙ sym (append_assoc s.front (take n rest) (drop n rest));
  took = took_more s.front (take n rest) a b c s.took k;
}

pub still_front : (bytes rest : List ℕ) (a b c : Option (List ℕ)) → c ≡ b → StillToWrite bytes rest a b → TookFront bytes a c
still_front bytes rest a b c e s = record { front = s.front; rest = rest; parts = s.parts; took = e ∙ s.took }

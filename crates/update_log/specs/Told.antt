-- Up to two marks, as a list.
use Rattle.std.specs.Prelude.{◌≡◌, Option, Some, None, List, [], ◌∷◌, ◌++◌, refl}
use Rattle.std.specs.Option.{option_to_list}
use Rattle.emulated_boards.specs.declared.mark.Mark.{Mark}
use Rattle.update_log.specs.declared.told.Told.TheInside.{Inside}

-- those that there are, in order
abbrev pub marks_told : Inside → List Mark
marks_told a = option_to_list a.first ++ option_to_list a.second

-- a second mark stands only behind a first
abbrev pub second_behind : Option Mark → Option Mark → Type 0
second_behind None None = Unit {0}
second_behind None (Some two) = ⊥
second_behind (Some one) second = Unit {0}

abbrev pub IsTold : Inside → Type 0
IsTold a = second_behind a.first a.second

-- the places of up to two marks
abbrev pub marks_kept : List Mark → Inside
marks_kept [] = record { first = None; second = None }
marks_kept (one ∷ []) = record { first = Some one; second = None }
marks_kept (one ∷ two ∷ more) = record { first = Some one; second = Some two }

both : (first second : Option Mark) → second_behind first second
    → marks_kept (option_to_list first ++ option_to_list second) ≡ record { first = first; second = second }
both None None h = refl
both None (Some two) h = absurd h
both (Some one) None h = refl
both (Some one) (Some two) h = refl

pub kept_again : (a : Inside) → IsTold a → marks_kept (marks_told a) ≡ a
kept_again a h = both a.first a.second h

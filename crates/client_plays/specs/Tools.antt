-- What a worker has, and what becomes of it.
use Rattle.std.specs.Prelude.{◌≡◌, ◌≤◌, ◌<◌, ◌-◌, ℕ, List, [], ◌∷◌, length, Option}
use Rattle.plugin_trait.specs.Steps.{PluginSteps, no_steps}
use Rattle.update_log.specs.declared.facts.Facts.{Facts}

-- The files of a shelf, each with its name and its bytes, where it tells them.
abbrev pub Files : Type 0
Files = Option (List (List ℕ × List ℕ))

-- What a client plays with: the files of its shelf, and what the steps of the plugin at each place give.
pub record Means : Type 1 where
  pub files : Files
  pub plugins : ℕ → PluginSteps

abbrev pub means_of : Files → (ℕ → PluginSteps) → Means
means_of files plugins = record { files = files; plugins = plugins }

-- These files, and no plugin.
abbrev pub files_alone : Files → Means
files_alone files = means_of files (λ place. no_steps)

-- What is known of a shelf: its files, and how often it failed.
pub record ShelfTold : Type 0 where
  pub files : Files
  pub faults : ℕ

-- How many plugins a worker has, and its shelves.
pub record Tools : Type 0 where
  pub plugins : ℕ
  pub shelves : List ShelfTold

-- The place of a client's shelf: client 1 has the first, and the daemon itself, client 0, shares that.
abbrev pub shelf_of : ℕ → ℕ
shelf_of client = client - 1

-- A worker can work for a client: it has a plugin for each of those that the facts name, and the
-- client's shelf.
pub record Serves (tools : Tools) (facts : Facts) (client : ℕ) : Type 0 where
  pub plugins : length facts.vetoes ≤ tools.plugins
  pub shelf : shelf_of client < length tools.shelves

-- A shelf has the same files, and its count of faults has not fallen.
pub record ShelfStays (old new : ShelfTold) : Type 0 where
  pub files : new.files ≡ old.files
  pub counts : old.faults ≤ new.faults

-- So it is of each shelf.
abbrev pub ShelvesStay : List ShelfTold → List ShelfTold → Type 0
ShelvesStay [] [] = Unit {0}
ShelvesStay [] (n ∷ new) = ⊥
ShelvesStay (o ∷ old) [] = ⊥
ShelvesStay (o ∷ old) (n ∷ new) = ShelfStays o n × ShelvesStay old new

-- What a worker has stays.
pub record ToolsStay (old new : Tools) : Type 0 where
  pub plugins : new.plugins ≡ old.plugins
  pub shelves : ShelvesStay old.shelves new.shelves

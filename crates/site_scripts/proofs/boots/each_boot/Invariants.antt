use Rattle.std.proofs.Common.{◌≡◌, ◌≤◌, drop, length, []}
use Rattle.json_values.specs.Trees.{items_view}
use Rattle.release_catalogue.specs.declared.spot.Level.TheVariants.{First}
use Rattle.release_catalogue.specs.declared.word.Word.TheVariants as words
use Rattle.release_catalogue.specs.Reading.{each, entry_spot}
use Rattle.site_scripts.specs.Boots.{boot_at, items_of_boots}
use Rattle.site_scripts.specs.Places.{spot_in}
use Rattle.site_scripts.proofs.boots.each_boot.Given as goal

abbrev pub invariant-loop-i : goal.invariant-loop-i
invariant-loop-i l = record {
  rest : each (λ earlier. boot_at l.ports l.clients (items_of_boots earlier)) (entry_spot (spot_in words.Boots words.Entry) First) l.read.items (items_view (drop l.i l.values))
      ≡ each (λ earlier. boot_at l.ports l.clients (items_of_boots earlier)) (entry_spot (spot_in words.Boots words.Entry) First) [] (items_view l.values);
  count : length l.read.items ≡ l.i;
  sum : l.taken ≡ items_of_boots l.read.items;
  few : l.taken ≤ 8192;
}

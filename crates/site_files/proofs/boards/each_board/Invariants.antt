use Rattle.std.proofs.Common.{◌≡◌, drop, length, []}
use Rattle.json_values.specs.Trees.{items_view}
use Rattle.release_catalogue.specs.declared.spot.Level.TheVariants.{First}
use Rattle.release_catalogue.specs.declared.word.Word.TheVariants as words
use Rattle.release_catalogue.specs.Reading.{each, entry_spot}
use Rattle.site_files.specs.Boards.{board_at, ports_of}
use Rattle.site_scripts.specs.Places.{spot_in}
use Rattle.site_files.proofs.boards.each_board.Given as goal

abbrev pub invariant-loop-i : goal.invariant-loop-i
invariant-loop-i l = record {
  rest : each board_at (entry_spot (spot_in words.Boards words.Entry) First) l.placed.items (items_view (drop l.i l.values))
      ≡ each board_at (entry_spot (spot_in words.Boards words.Entry) First) [] (items_view l.values);
  count : length l.placed.items ≡ l.i;
  known : l.ports ≡ ports_of l.placed.items;
}

use Rattle.std.proofs.Common.{sym, subst}
use Rattle.ns_table.specs.Patches.{told_places}
use Rattle.ns_table.specs.Words.{no_stamps}
use Rattle.edit_words.specs.Differing.{AreBelow}
use Rattle.edit_words.proofs.ByPlace.{below-words}
use Rattle.edit_words.proofs.Told.{told-in}
use Rattle.edit_words.proofs.edits.put_published.Goals as goal

pub put_differing-requires-clause-below : goal.put_differing-requires-clause-below
put_differing-requires-clause-below g c =
    subst AreBelow (sym (c.put_change.ensures.words no_stamps))
    (below-words _ (told_places c.args.tree.now c.args.change.now) (told-in c.args.tree.now c.args.change.now c.certify.ensures c.requires.fits))

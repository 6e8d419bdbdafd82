use Rattle.std.proofs.Common.{◌≡◌, drop}
use Rattle.gb_format.specs.Fits.{fits, texts_of}
use Rattle.gb_format.proofs.fits.fits.Given as goal

abbrev pub invariant-items : goal.invariant-items
invariant-items l = fits l.reach l.place l.before l.room (texts_of (drop l.item-index l.items)) ≡ fits l.fn.reach l.fn.place l.fn.before l.fn.room (texts_of l.items)

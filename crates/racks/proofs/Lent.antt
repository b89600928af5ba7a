-- An image rack that carried requests, and nothing else, holds the words that it was lent; and they are the image of the line that it means.
use Rattle.std.proofs.Common.{◌≡◌, List, sym, ap, ◌∙◌}
use Rattle.telegrams.specs.Requests.{Sent}
use Rattle.lines.specs.Lines.{Meaning}
use Rattle.lines.specs.Sending.{Sends}
use Rattle.lines.proofs.Sending.{sends_keeps}
use Rattle.racks.specs.Racks.{line_in, image_saying, CarriedInPlace}
use Rattle.racks.specs.declared.image_rack.ImageRack.{ImageRack}
use Rattle.racks.proofs.Images.{image_back}

pub words_kept : (i j : ImageRack) (qs : List Sent) → Sends (λ k q l. CarriedInPlace k.words q l.words) i qs j → j.words.ghost_name ≡ i.words.ghost_name
words_kept i j qs sends = sends_keeps (λ k. k.words.ghost_name) (λ k q l. CarriedInPlace k.words q l.words) (λ k q l carried. carried.1) i j qs sends

pub words_say : (i : ImageRack) (l : Meaning) → line_in i.words.now ≡ l → i.words.now ≡ image_saying l
words_say i l means = sym (image_back i.words.now i.good) ∙ ap image_saying means

-- Why the program reads no more: what it would print for all of its input, however long, it prints for the first bytes.
use Rattle.image_input.proofs.Front.{loaded_front}
use Rattle.page.specs.Printed.{printed, PrintedFront}

pub printed_front : PrintedFront
unfolding printed
printed_front xs b = rw (loaded_front xs b)

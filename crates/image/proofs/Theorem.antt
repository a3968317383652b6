-- All that is promised of images, in one theorem.
use Rattle.image.specs.Promises.{ImagePromises}
use Rattle.image.proofs.Promises.{standard_fresh, empty_loads, never_empty, written_some, few_refused, written_loads, written_then_loads, image_most, prefix_refused, extension_refused, loaded_well, loaded_writes, loaded_written, empty_lost, only_empty}
use Rattle.image.proofs.Before.{image_without_lem, read_without, image_before_lem}

pub images : ImagePromises
images =
    record {
      floors = λ f w. record {
        loads = written_loads f w;
        from_buffer = written_then_loads f w;
        most = image_most f w;
        prefixes = prefix_refused f w;
        extensions = extension_refused f w;
        without = image_without_lem f w;
        before = image_before_lem f w;
      };
      images = λ xs b. record {
        well = loaded_well xs;
        again = λ some a. loaded_writes xs some a b;
        to_buffer = λ some a. loaded_written xs some a b;
        only_empty = only_empty xs b;
        few = few_refused xs;
        older = read_without xs;
      };
      blank = empty_loads;
      blank_fresh = standard_fresh;
      never_empty = never_empty;
      written_some = written_some;
      blank_lost = empty_lost;
    }

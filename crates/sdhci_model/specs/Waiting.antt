-- What a driver has beside the card, as the model notes it.
use Rattle.mmc_sdhci.specs.Beside.{Beside}
use Rattle.sdhci_model.specs.declared.waited.Waited.{Waited}

abbrev pub beside_of : Waited → Beside
beside_of noted =
    record {
      waited = noted.total;
      present = noted.present;
      wait = record { interrupts = noted.interrupts; micros = noted.micros };
    }

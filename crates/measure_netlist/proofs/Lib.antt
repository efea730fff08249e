pub mod SamePorts

pub mod FirstSeats

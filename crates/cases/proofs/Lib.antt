mod Flown

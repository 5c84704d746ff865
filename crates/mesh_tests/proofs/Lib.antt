mod Tickets
